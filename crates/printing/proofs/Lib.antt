pub mod PrintLaws
