mod HoldSteps
mod LawLemmas
mod OrderSteps
mod PassSteps
mod Permutations
mod PickSteps
mod StampSteps
mod WordSteps
