pub mod SmallRow
