mod ListLemmas
mod EndLemmas
mod AttemptLemmas
mod LawLemmas
mod ExampleLemmas
