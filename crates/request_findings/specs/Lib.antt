-- "A refusal names its record, proved", in its sentences and then proved: of an audit (WhoFails), and of a board and what it needs
-- (WhatFits), from laws of the finding, of host records and of room in a pool.
pub mod WhoFails
pub mod WhatFits
