-- The records of a checked sheet by number: the functions that the walk has are those of its records, and a record's command word gives its
-- bus master bit. Assumes nothing.
use Rattle.std.specs.Prelude.{◌≡◌, ◌⊎◌, Bool, cond, not, List, ℕ, zero, suc, ◌+◌, ◌-◌, ◌≤◌, ◌<◌, length}
use Rattle.std.proofs.Math.Path.{refl, ap}
use Rattle.std.proofs.Common.{sym, subst, ◌∙◌, inl, inr, arith, eqb-true}
use Rattle.std.proofs.Math.Bool.{true, false}
use Rattle.std.proofs.lemmas.Bool.{false≢true, not-true, not-false}
use mathlib.Core.List.Memᴰ
use Rattle.std.proofs.Math.Dec.{eqb}
use Rattle.pools.specs.declared.Space.{Space}
use Rattle.bar.specs.Bar.{any_bad}
use Rattle.lists.specs.Lists.{◌∈◌}
use Rattle.lists.specs.ListLaws.{all_intro}
use Rattle.lists.specs.KeepLaws.{keep_none}
use Rattle.walk.specs.Registers.{Registers}
use Rattle.walk.specs.Climb.{nowhere, start_at}
use Rattle.walk.proofs.ClimbLaws.{start_is}
use Rattle.sheet_record.specs.Places.{record_size}
use Rattle.sheet_record.specs.Entry.{entry_of, header_of, is_bridge, bus_of, command_of}
use Rattle.sheet_record.specs.Spaces.{slots_of, function_of, command_bit, master_bit}
use Rattle.sheet.specs.Sheet.{entries_from, entries_of, part_at, sheet_length, record_at}
use Rattle.sheet.specs.Spaces.{functions_from, registers_of, master_of}
use Rattle.sheet.proofs.IndexLaws.{length_part, record_fits, functions_index, functions_end, bit_index}
use Rattle.sheet.proofs.SheetLaws.{Checked, numbered_functions, lawful_index}
use Rattle.sheet_above.specs.FunctionsLaws.{function_index}
use Rattle.route_cards.specs.Search.{part_of, function_at, IsRecord, IsType0, Type0Told, start_answer}

-- ## The walk's functions are those of the records

module _ (s : List ℕ) (c : Checked s) (space : Space) where
  abbrev left : ℕ → List Registers
  left k = functions_from space (k + 1) (entries_from s (record_at k))

  index_back : (k : ℕ) → k + 1 - 1 ≡ k
  index_back k = omega arith

  pub here : (k : ℕ) → function_at space s (k + 1) ≡ function_of space (k + 1) (entry_of (part_at s k))
  here k = ap (λ (j : ℕ). function_of space (k + 1) (entry_of (part_at s j))) (index_back k)

  pub function_mem : (number : ℕ) → IsRecord s number → function_at space s number ∈ registers_of space s
  function_mem number r =
      let e : number - 1 + 1 ≡ number = omega (arith, r.from_1) in
      subst (λ (n : ℕ). function_of space n (entry_of (part_of s number)) ∈ registers_of space s) e
      (function_index s c.framed space (number - 1) (omega (arith, r.from_1, r.in_sheet)))

  elim_from : (m k : ℕ) (f : Registers) → length (entries_of s) ≡ k + m → f ∈ left k
      → IsRecord s f.node.number × (f ≡ function_at space s f.node.number)
  elim_from zero k f e m = absurd (Memᴰ.not-nil (rw (functions_end s c.framed space k (omega (arith, e))) at m))
  elim_from (suc n) k f e m =
      go (Memᴰ.cases_cons (rw (functions_index s c.framed space k (omega (arith, e))) at m))
      (elim_from n (k + 1) f (omega (arith, e)))
    where
      go : (f ≡ function_of space (k + 1) (entry_of (part_at s k))) ⊎ (f ∈ left (k + 1))
          → (f ∈ left (k + 1) → IsRecord s f.node.number × (f ≡ function_at space s f.node.number))
          → IsRecord s f.node.number × (f ≡ function_at space s f.node.number)
      go (inl same) later =
          let number_is : f.node.number ≡ k + 1 = ap (λ (g : Registers). g.node.number) same in (
            record { from_1 = omega (arith, number_is); in_sheet = omega (arith, number_is, e) },
            same ∙ sym (here k) ∙ ap (function_at space s) (sym number_is),
          )
      go (inr r) later = later r

  pub function_elim : (f : Registers) → f ∈ registers_of space s
      → IsRecord s f.node.number × (f ≡ function_at space s f.node.number)
  function_elim f m = elim_from (length (entries_of s)) 0 f (omega arith) m

  start_none : (number : ℕ) → ((f : Registers) → f ∈ registers_of space s → f.node.number ≡ number → ⊥)
      → start_at (registers_of space s) number ≡ nowhere
  unfolding start_at
  start_none number none =
      rw (keep_none (λ f. eqb f.node.number number) (registers_of space s)
      (all_intro _ (registers_of space s) (λ f m. go f m (eqb f.node.number number) refl)))
    where
      go : (f : Registers) → f ∈ registers_of space s → (b : Bool) → eqb f.node.number number ≡ b → b ≡ false
      go f m false e = refl
      go f m true e = absurd (none f m (eqb-true _ _ e))

  start_here : (number : ℕ) → IsRecord s number → (b : Bool) → is_bridge (header_of (part_of s number)) ≡ b
      → start_at (registers_of space s) number ≡ cond b nowhere (start_answer space s number)
  unfolding entry_of
  start_here number r b e =
      start_is (registers_of space s) (numbered_functions space 1 (entries_of s)) (function_at space s number) (function_mem number r)
      ∙ rw e

  pub start_of_type_0 : (number : ℕ) → IsType0 s number → start_at (registers_of space s) number ≡ start_answer space s number
  start_of_type_0 number type_0 = start_here number type_0.is_record false type_0.no_bridge

pub type_0_no_bridge : (s : List ℕ) (space : Space) (number : ℕ) → IsType0 s number → (function_at space s number).node.bridge ≡ false
unfolding entry_of
type_0_no_bridge s space number type_0 = type_0.no_bridge

-- ## What the test for a type 0 function tells, in the words of the code

module _ (s : List ℕ) (c : Checked s) (number : ℕ) where
  pub told_0 : number ≡ 0 → Type0Told s number false
  told_0 e =
      record {
        yes = λ y. absurd (false≢true y);
        no = λ n space. start_none s c space number (λ f m same. omega (arith, (function_elim s c space f m).0.from_1, same, e));
      }

  module _ (count : ℕ) (counted : count ≡ length (entries_of s)) where
    pub told_past : count < number → Type0Told s number false
    told_past h =
        record {
          yes = λ y. absurd (false≢true y);
          no = λ n space. start_none s c space number (λ f m same. omega (arith, (function_elim s c space f m).0.in_sheet, same, h));
        }

    pub record_of : (number ≡ 0 → ⊥) → number ≤ count → IsRecord s number
    record_of some h = record { from_1 = omega (arith, some); in_sheet = omega (arith, h) }

  module _ (r : IsRecord s number) where
    inside : number - 1 < length (entries_of s)
    inside = omega (arith, r.from_1, r.in_sheet)

    pub part_fits : sheet_length (number - 1 + 1) ≤ length s
    part_fits = record_fits s c.framed (number - 1) inside

    -- p is its part
    module _ (p : List ℕ) (e : p ≡ part_of s number) where
      pub sized : length p ≡ record_size
      sized = ap length e ∙ length_part s (number - 1) part_fits

      pub lawful : any_bad (slots_of (entry_of p)) ≡ false
      lawful = rw e (lawful_index s c (number - 1) inside)

      -- b the test for a bridge
      pub told : (b : Bool) → b ≡ is_bridge (header_of p) → Type0Told s number (not b)
      told b t =
          record {
            yes = λ y. record { is_record = r; no_bridge = ap (λ (q : List ℕ). is_bridge (header_of q)) (sym e) ∙ sym t ∙ not-true b y };
            no = λ n space.
                start_here s c space number r true
                (ap (λ (q : List ℕ). is_bridge (header_of q)) (sym e) ∙ sym t ∙ not-false b n);
          }

-- ## Bus master

module _ (s : List ℕ) (c : Checked s) (number : ℕ) (r : IsRecord s number) (p : List ℕ) (e : p ≡ part_of s number) where
  pub master_is : master_of s number ≡ command_bit master_bit (command_of p)
  master_is =
      let back : number - 1 + 1 ≡ number = omega (arith, r.from_1) in
      ap (master_of s) (sym back)
      ∙ bit_index s c.framed master_bit (number - 1) (omega (arith, r.from_1, r.in_sheet))
      ∙ ap (λ (q : List ℕ). command_bit master_bit (command_of q)) (sym e)

  pub bus_is : (space : Space) → (function_at space s number).node.bus ≡ bus_of p
  unfolding entry_of
  bus_is space = ap bus_of (sym e)
