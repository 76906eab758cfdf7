pub mod AlongLaws
pub mod ForceLaws
pub mod PassLaws
pub mod RestLaws
pub mod TrailLaws
