pub mod TightenedAt
