pub mod Sending
mod CountLemmas
mod SeatLemmas
mod SlotLemmas
