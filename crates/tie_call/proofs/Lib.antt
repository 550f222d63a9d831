pub mod TieCallLaws
