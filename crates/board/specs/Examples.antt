-- Worked examples of a board's number, as one table under one claim. Assumes nothing.
use Rattle.std.specs.Prelude.{◌≡◌, ℕ, zero, suc, List, [], ◌∷◌, ◌++◌, map}
use Rattle.endian.specs.Endian.{be_bytes}
use Rattle.board.specs.Board.{board_number}

-- ## Records

abbrev pub host : List ℕ
host =
    0 ∷ 30 ∷ 0 ∷ 255 ∷ be_bytes 4 0xF9000000 ++ be_bytes 4 0xF9FFFFFF ++ be_bytes 8 0x240000000 ++ be_bytes 8 0x27FFFFFFF ++ 0x40 ∷ 0 ∷ 0x4F
    ∷ 0xFF ∷ []

-- with a low pool of its own
abbrev pub host_with : ℕ → ℕ → List ℕ
host_with base last = 0 ∷ 30 ∷ 0 ∷ 255 ∷ be_bytes 4 base ++ be_bytes 4 last ++ be_bytes 8 1 ++ be_bytes 8 0 ++ 1 ∷ 0 ∷ 0 ∷ 0 ∷ []

abbrev pub bridge : ℕ → ℕ → ℕ → List ℕ
bridge parent devfn header = 0 ∷ 14 ∷ be_bytes 2 parent ++ devfn ∷ header ∷ 0 ∷ 3 ∷ be_bytes 8 0

-- version 2's, with spare buses and MiB
abbrev pub bridge_with : ℕ → ℕ → ℕ → ℕ → ℕ → List ℕ
bridge_with parent devfn header buses room =
    0 ∷ 17 ∷ be_bytes 2 parent ++ devfn ∷ header ∷ 0 ∷ 3 ∷ be_bytes 8 0 ++ buses ∷ be_bytes 2 room

abbrev pub end : ℕ → ℕ → ℕ → List ℕ
end parent devfn header = 0 ∷ 30 ∷ be_bytes 2 parent ++ devfn ∷ header ∷ 0 ∷ 3 ∷ be_bytes 8 0 ++ be_bytes 8 0 ++ be_bytes 8 0

-- with one read-back
abbrev pub card : ℕ → ℕ → ℕ → List ℕ
card parent devfn readback =
    0 ∷ 30 ∷ be_bytes 2 parent ++ devfn ∷ 0 ∷ 0 ∷ 3 ∷ be_bytes 4 readback ++ be_bytes 4 0 ++ be_bytes 8 0 ++ be_bytes 8 0

-- n bridges, each below the one before, from record k + 1 on
unfoldable pub chain : ℕ → ℕ → List ℕ
chain zero k = []
chain (suc n) k = bridge k 0 1 ++ chain n (suc k)

-- n bridges below record p, at device/function k and on, with bit 7 of their header types set
unfoldable pub row : ℕ → ℕ → ℕ → List ℕ
row p zero k = []
row p (suc n) k = bridge p k 129 ++ row p n (suc k)

-- 512 functions, as many below the host's last bridge as beside it
abbrev pub full : List ℕ
full = 1 ∷ host ++ row 0 256 0 ++ row 256 256 0

-- P10, after source document 004
abbrev pub p10 : List ℕ
p10 =
    1 ∷ host ++ bridge 0 0 1
    ++ 0 ∷ 30 ∷ 0 ∷ 1 ∷ 0 ∷ 0 ∷ 0 ∷ 3
    ∷ be_bytes 4 0xFFFFF000 ++ be_bytes 4 0xFC00000C ++ be_bytes 4 0xFFFFFFFF ++ be_bytes 4 0xFFFFFF01 ++ be_bytes 8 0

pub record Row : Type 0 where
  pub board : List ℕ
  pub number : ℕ

abbrev pub rows : List Row
rows =
    record { board = []; number = 20 }
    ∷ record { board = 1 ∷ []; number = 20 }
    ∷ record { board = 2 ∷ []; number = 20 }
    ∷ record { board = 3 ∷ []; number = 21 }
    -- version 2: a bridge has its spares, in 17 bytes; of 14 it is version 1's
    ∷ record { board = 2 ∷ host; number = 0 }
    ∷ record { board = 2 ∷ host ++ bridge_with 0 0 1 5 7; number = 0 }
    ∷ record { board = 1 ∷ host ++ bridge_with 0 0 1 5 7; number = 24 }
    ∷ record { board = 2 ∷ host ++ bridge 0 0 1; number = 24 }
    ∷ record { board = 2 ∷ host ++ bridge_with 0 0 1 0 0 ++ end 1 0 0; number = 0 }
    -- P8
    ∷ record { board = 1 ∷ host; number = 0 }
    -- a stray last byte
    ∷ record { board = 1 ∷ host ++ 0 ∷ []; number = 20 }
    ∷ record { board = p10; number = 0 }
    -- 33 bridges in a row have at most 32 above; a 34th has 33
    ∷ record { board = 1 ∷ host ++ chain 33 0; number = 0 }
    ∷ record { board = 1 ∷ host ++ chain 34 0; number = 23 }
    ∷ record { board = 1 ∷ host ++ chain 33 0 ++ end 33 0 0; number = 23 }
    -- siblings rise strictly; a function 1 wants a function 0 with bit 7 of its header type set
    ∷ record { board = 1 ∷ host ++ bridge 0 8 1 ++ end 1 0 0 ++ bridge 0 16 1; number = 0 }
    ∷ record { board = 1 ∷ host ++ bridge 0 8 1 ++ end 1 0 0 ++ bridge 0 8 1; number = 23 }
    ∷ record { board = 1 ∷ host ++ end 0 8 128 ++ end 0 9 0; number = 0 }
    ∷ record { board = 1 ∷ host ++ end 0 8 0 ++ end 0 9 0; number = 23 }
    -- a bridge that was left is no parent any more
    ∷ record { board = 1 ∷ host ++ bridge 0 0 1 ++ bridge 0 8 1 ++ end 1 0 0; number = 23 }
    -- 512 functions are enough; one more is 22 before its place is looked at
    ∷ record { board = full; number = 0 }
    ∷ record { board = full ++ end 0 0 0; number = 22 }
    -- a function of 5 bytes, of 6, and a header type 2
    ∷ record { board = 1 ∷ host ++ 0 ∷ 5 ∷ 0 ∷ 0 ∷ 0 ∷ 0 ∷ 0 ∷ []; number = 20 }
    ∷ record { board = 1 ∷ host ++ 0 ∷ 6 ∷ 0 ∷ 0 ∷ 0 ∷ 0 ∷ 0 ∷ 0 ∷ []; number = 24 }
    ∷ record { board = 1 ∷ host ++ end 0 0 2; number = 24 }
    -- a pool's last edge; closed pools have none; a pool may start at 0 and end with the last address
    ∷ record { board = 1 ∷ host_with 0x100000 0x1FFFFF; number = 0 }
    ∷ record { board = 1 ∷ host_with 0x100000 0x1FFFFE; number = 26 }
    ∷ record { board = 1 ∷ host_with 0x1FFFFE 0; number = 0 }
    ∷ record { board = 1 ∷ host_with 0 0xFFFFFFFF; number = 0 }
    -- P9, and after it a function out of its place; and both in a host with a wrong pool
    ∷ record { board = 1 ∷ host ++ card 0 0 0xF0FFF000; number = 25 }
    ∷ record { board = 1 ∷ host ++ card 0 0 0xF0FFF000 ++ end 1 0 0; number = 23 }
    ∷ record { board = 1 ∷ host_with 1 1 ++ card 0 0 0xF0FFF000 ++ end 1 0 0; number = 26 }
    ∷ []

pub record Worked (rs : List Row) : Type 0 where
  pub numbers : map (λ r. board_number r.board) rs ≡ map (λ r. r.number) rs
