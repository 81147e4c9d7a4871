-- Why operations are refused, and bytes of forms.
pub mod JudgeLemmas
pub mod PolygonLemmas
pub mod FormLemmas
pub mod SaidPixels
pub mod AskLemmas
pub mod PointLemmas
pub mod FrameLemmas
