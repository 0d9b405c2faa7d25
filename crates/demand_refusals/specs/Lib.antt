-- Demand 1: a refused call changes no lent byte, of every public call that writes.
pub mod Demand1
