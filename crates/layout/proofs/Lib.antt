pub mod RecordValues
pub mod PictureLaws
pub mod PlaceLaws
pub mod RunLaws
pub mod TypeLaws
pub mod ValueLaws
