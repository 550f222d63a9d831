pub mod HalfLaws
pub mod SideLaws
