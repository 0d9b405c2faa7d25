-- An ID of any size and a command word, in the words of the code. Assumes nothing.
use Rattle.std.specs.Prelude.{ℕ, ◌+◌, ◌-◌, ◌<◌, ◌≤◌, ◌≡◌, refl, Bool, true, false, cond, Option, Some, None, List, drop, eqb}
use Rattle.std.proofs.Common.{arith, lt-ltb, le-ltb, eqb-true}
use Rattle.endian.specs.Endian.{Bytes}
use Rattle.endian.specs.EndianLaws.{be_lt}
use Rattle.endian.specs.BytesLaws.{bytes_take, bytes_drop}
use Rattle.sheet.specs.declared.Lookup.TheVariants.{Refused as NotFound}
use Rattle.sheet.specs.Sheet.{Framed, entries_of, find_from, sheet_number}
use Rattle.sheet.proofs.SheetLaws.{checked_of_zero}
use Rattle.sheet.specs.Lookup.{placed, lookup_of, lookup_number, with_command}
use Rattle.sheet.proofs.LookupLaws.{found_at}
use Rattle.sheet.proofs.CheckLaws.{part_from}
use Rattle.capi_sheet.specs.Calls.{unowned_of, word, command_number, command_left}

-- ## An ID above FFFFh

-- no function has it
pub lookup_wide : (s : List ℕ) (id : ℕ) → Bytes s → word < id → NotFound (unowned_of s) ≡ lookup_of s id
unfolding lookup_of
lookup_wide s id bytes wide = go (eqb (sheet_number s) 0) refl
  where
    found : Framed 1 s → (x : Option ℕ) → find_from id 1 (entries_of s) ≡ x → NotFound 40 ≡ placed x
    found f None e = refl
    found f (Some at) e =
        let part = bytes_take (at + 92 - (at + 2)) (drop (at + 2) s) (bytes_drop (at + 2) s bytes) in
        absurd (omega (arith, (found_at s 1 id at f e).id_is, be_lt 2 (part_from s at) 0 part))

    go : (b : Bool) → eqb (sheet_number s) 0 ≡ b
        → NotFound (cond b 40 (sheet_number s)) ≡ cond b (placed (find_from id 1 (entries_of s))) (NotFound (sheet_number s))
    go true z = found (checked_of_zero s (eqb-true (sheet_number s) 0 z)).framed (find_from id 1 (entries_of s)) refl
    go false z = refl

-- ## A command word

module _ (s : List ℕ) (id command : ℕ) where
  abbrev pub Commanded : ℕ → List ℕ → Type 0
  Commanded r after = (r ≡ command_number s id command) × (after ≡ command_left s id command)

  pub command_too_wide : word < command → Commanded 10 s
  unfolding command_number command_left
  command_too_wide h = (rw (lt-ltb word command h), rw (lt-ltb word command h))

  module _ (fits : command ≤ word) where
    pub commanded : (r : ℕ) (after : List ℕ) → (r ≡ lookup_number (lookup_of s id)) × (after ≡ with_command (lookup_of s id) s command)
        → Commanded r after
    unfolding command_number command_left
    commanded r after e = (rw (le-ltb word command fits) e.0, rw (le-ltb word command fits) e.1)

    pub command_unowned : (r : ℕ) → Bytes s → word < id → r ≡ unowned_of s → Commanded r s
    command_unowned r bytes wide e = commanded r s (rw (← lookup_wide s id bytes wide) (e, refl))
