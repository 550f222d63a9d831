pub mod BitLaws
pub mod RoomLaws
