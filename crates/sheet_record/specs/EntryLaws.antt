-- A record's BARs as the code reads them from the record's bytes: the first of six slots. Assumes nothing.
use Rattle.std.specs.Prelude.{◌≡◌, Bool, cond, List, ℕ, zero, suc, ◌+◌, length}
use Rattle.std.proofs.Math.Path.{refl}
use Rattle.std.proofs.Common.{ap}
use Rattle.std.proofs.Math.Bool.{true, false}
use Rattle.std.proofs.Math.ListN.{take}
use Rattle.endian.specs.Endian.{be, le}
use Rattle.pools.specs.declared.Space.{Space}
use Rattle.bar.specs.Bar.{slots}
use Rattle.sheet_record.specs.Places.{values_at, readbacks_at}
use Rattle.sheet_record.specs.Entry.{dwords, header_of, is_bridge, slot_count, entry_of}
use Rattle.sheet_record.specs.Spaces.{slots_of, bars_of}
use Rattle.sheet_record.specs.SpacesLaws.{bars_at}

pub length_dwords : (read : List ℕ → ℕ → ℕ) (n : ℕ) (p : List ℕ) (at : ℕ) → length (dwords read n p at) ≡ n
unfolding dwords
length_dwords read zero p at = refl
length_dwords read (suc n) p at = ap suc (length_dwords read n p (at + 4))

module _ (p : List ℕ) where
  -- the first read-backs and values of the six that the code reads
  abbrev pub first_of : List ℕ → List ℕ
  first_of xs = take (slot_count (header_of p)) xs

  pub values_entry : (entry_of p).values ≡ first_of (dwords (le 4) 6 p values_at)
  unfolding entry_of dwords
  values_entry = go (is_bridge (header_of p))
    where
      go : (b : Bool) → dwords (le 4) (cond b 2 6) p values_at ≡ take (cond b 2 6) (dwords (le 4) 6 p values_at)
      go true = refl
      go false = refl

  pub slots_entry : slots_of (entry_of p) ≡ slots (first_of (dwords (be 4) 6 p readbacks_at))
  unfolding entry_of
  slots_entry = refl

  pub bars_entry : (space : Space)
      → bars_of space (entry_of p)
      ≡ bars_at space (take (slot_count (header_of p)) (dwords (be 4) 6 p readbacks_at))
      (take (slot_count (header_of p)) (dwords (le 4) 6 p values_at)) 0
  bars_entry space = rw (slots_entry, values_entry)
