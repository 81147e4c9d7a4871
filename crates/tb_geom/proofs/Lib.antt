pub mod PointLemmas
pub mod RectLemmas
pub mod PixelsLemmas
pub mod Steps
