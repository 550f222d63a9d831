pub mod PreparedSaid
