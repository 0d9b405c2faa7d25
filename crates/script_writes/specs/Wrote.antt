-- What a call that puts writes into a room leaves there, and where the next write goes. Assumes nothing.
use Rattle.std.specs.Prelude.{◌≡◌, List, [], ◌∷◌, ℕ}
use Rattle.std.proofs.lemmas.List.Edits.{sets}
use Rattle.script_writes.specs.declared.Boot.{Boot}
use Rattle.script_writes.specs.declared.Place.{Place}
use Rattle.script_writes.specs.declared.Dword.{Dword}
use Rattle.script_writes.specs.Writes.{Write, write_of}
use Rattle.script_writes.specs.Script.{script_from, place_after}

pub record Wrote (boot : Boot) (room : List ℕ) (from : Place) (ws : List Write) (room' : List ℕ) (next : Place) : Type 0 where
  pub stored : room' ≡ sets room from.at (script_from boot from.tag ws)
  pub next_is : next ≡ place_after from ws

-- the write of one register of a part, whatever its record's number
abbrev pub WroteOne : Boot → List ℕ → Place → List ℕ → ℕ → ℕ → List ℕ → Place → Type 0
WroteOne boot room from p offset enables room' next = (k : ℕ) → Wrote boot room from (write_of k p offset enables ∷ []) room' next

-- a write of these four bytes
abbrev pub known_write : ℕ → ℕ → ℕ → ℕ → Dword → Write
known_write k id offset enables d =
    record {
      number = k;
      id = id;
      offset = offset;
      enables = enables;
      bytes = d.first ∷ d.second ∷ d.third ∷ d.fourth ∷ [];
    }
