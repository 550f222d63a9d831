pub mod ProbingLaws
