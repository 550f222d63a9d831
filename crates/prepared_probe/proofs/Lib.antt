pub mod ProbedLaws
