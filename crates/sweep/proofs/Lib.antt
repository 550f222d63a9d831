pub mod StepLaws
pub mod StableLaws
