pub mod TightenLaws
