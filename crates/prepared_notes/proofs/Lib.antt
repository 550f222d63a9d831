pub mod HeardLaws
