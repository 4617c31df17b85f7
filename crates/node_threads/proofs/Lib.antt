pub mod AskedLemmas
pub mod EndLemmas
