-- The bridge above a bus among the functions that the walk has of a sheet: the function of the record that was told. Assumes nothing.
use Rattle.std.specs.Prelude.{◌≡◌, refl, Bool, true, false, cond, List, [], ◌∷◌, ℕ, zero, suc, ◌+◌, ◌≤◌, ◌<◌, eqb, length}
use Rattle.std.proofs.Common.{sym, ap, ◌∙◌, arith, add-one, eqb-true, eq-eqb, ne_eqb}
use mathlib.Core.List.Memᴰ
use Rattle.lists.specs.Lists.{◌∈◌, keep}
use Rattle.lists.specs.KeepLaws.{keep_intro}
use Rattle.pools.specs.declared.Space.{Space}
use Rattle.pools.specs.declared.Space.TheVariants.{Memory}
use Rattle.walk.specs.Registers.{Registers}
use Rattle.walk.proofs.RegistersLaws.{node_mem}
use Rattle.walk.specs.Above.{is_above}
use Rattle.walk.specs.Climb.{leading_to}
use Rattle.sheet_record.specs.Entry.{Entry, entry_of}
use Rattle.sheet_record.specs.Spaces.{node_of, function_of}
use Rattle.sheet.specs.Sheet.{Framed, entries_from, entries_of, part_at, record_at}
use Rattle.sheet.proofs.IndexLaws.{functions_index}
use Rattle.sheet.proofs.SheetLaws.{nodes_functions}
use Rattle.sheet.specs.Spaces.{functions_from, registers_of, nodes_of}
use Rattle.sheet_above.specs.Parents as rule
use Rattle.sheet_above.specs.Parents.{leads_to, leaders_of, parent_among, parent_of}
use Rattle.sheet_above.specs.declared.Parent.{Parent}
use Rattle.sheet_above.specs.declared.Parent.TheVariants.{Host, Bridge, Nothing, Several}
use Rattle.sheet_above.specs.Table.{IsParent}
use Rattle.sheet_above.specs.ToldLaws.{leads_of_parent}

-- ## The function of record k, from 0

abbrev pub function_in : Space → List ℕ → ℕ → Registers
function_in space s k = function_of space (k + 1) (entry_of (part_at s k))

module _ (s : List ℕ) (f : Framed 1 s) where
  functions_from_lem : (space : Space) (k : ℕ) → k ≤ length (entries_of s) → (x : Registers)
      → x ∈ functions_from space (k + 1) (entries_from s (record_at k)) → x ∈ registers_of space s
  functions_from_lem space zero h x m = m
  functions_from_lem space (suc k) h x m =
      functions_from_lem space k (omega arith) x (rw (functions_index s f space k (omega arith), add-one k) (Memᴰ.tail m))

  pub function_index : (space : Space) (k : ℕ) → k < length (entries_of s) → function_in space s k ∈ registers_of space s
  function_index space k h =
      functions_from_lem space k (omega arith) (function_in space s k) (rw (functions_index s f space k h) (Memᴰ.head refl))

  pub node_index : (k : ℕ) → k < length (entries_of s) → node_of (k + 1) (entry_of (part_at s k)) ∈ nodes_of s
  node_index k h = rw (nodes_functions Memory 1 (entries_of s)) at (node_mem (function_index Memory k h))

-- ## Those that lead to a bus

-- as many as there are among the records
length_leading : (space : Space) (bus k : ℕ) (es : List Entry)
    → length (leading_to bus (functions_from space k es)) ≡ length (leaders_of es bus)
unfolding keep functions_from
length_leading space bus k [] = refl
length_leading space bus k (e ∷ es) = go (leads_to bus e) (length_leading space bus (k + 1) es)
  where
    go : (t : Bool) → length (leading_to bus (functions_from space (k + 1) es)) ≡ length (leaders_of es bus)
        → length (cond t (function_of space k e ∷ leading_to bus (functions_from space (k + 1) es))
        (leading_to bus (functions_from space (k + 1) es)))
        ≡ length (cond t (e ∷ leaders_of es bus) (leaders_of es bus))
    go true h = ap suc h
    go false h = h

none_of : (bs : List Entry) (fs : List Registers) → length fs ≡ length bs → parent_among bs ≡ rule.under_none → fs ≡ []
none_of [] [] h e = refl
none_of [] (x ∷ fs) h e = absurd (omega (arith, h))
none_of (b ∷ []) fs h e = absurd (let z : ◌≡◌ {A = ℕ} 0 1 = cc e in omega arith)
none_of (b ∷ c ∷ bs) fs h e = absurd (let z : ◌≡◌ {A = ℕ} 0 1 = cc e in omega arith)

one_of : (bs : List Entry) (fs : List Registers) → length fs ≡ length bs → (b : Entry) → parent_among bs ≡ rule.under_bridge b
    → (x : Registers) → x ∈ fs → fs ≡ x ∷ []
one_of [] fs h b e x m = absurd (let z : ◌≡◌ {A = ℕ} 0 1 = cc e in omega arith)
one_of (c ∷ []) [] h b e x m = absurd (omega (arith, h))
one_of (c ∷ []) (y ∷ []) h b e x m = ap (λ (z : Registers). z ∷ []) (sym (Memᴰ.eq_of_singleton m))
one_of (c ∷ []) (y ∷ z ∷ fs) h b e x m = absurd (omega (arith, h))
one_of (c ∷ d ∷ bs) fs h b e x m = absurd (let z : ◌≡◌ {A = ℕ} 0 1 = cc e in omega arith)

abbrev pub TwoOf : List Registers → Type 0
TwoOf fs = (b : Registers) × (c : Registers) × (bs : List Registers) × (fs ≡ b ∷ c ∷ bs)

two_of : (bs : List Entry) (fs : List Registers) → length fs ≡ length bs → parent_among bs ≡ rule.under_several → TwoOf fs
two_of [] fs h e = absurd (let z : ◌≡◌ {A = ℕ} 0 1 = cc e in omega arith)
two_of (b ∷ []) fs h e = absurd (let z : ◌≡◌ {A = ℕ} 0 1 = cc e in omega arith)
two_of (b ∷ c ∷ bs) [] h e = absurd (omega (arith, h))
two_of (b ∷ c ∷ bs) (x ∷ []) h e = absurd (omega (arith, h))
two_of (b ∷ c ∷ bs) (x ∷ y ∷ fs) h e = (x, y, fs, refl)

-- ## By who was told to stand above

module _ (space : Space) (s : List ℕ) (root bus : ℕ) where
  abbrev pub FunctionsAbove : Parent → Type 0
  FunctionsAbove Host = bus ≡ root
  FunctionsAbove (Bridge k) = ¬ (bus ≡ root) × (leading_to bus (registers_of space s) ≡ function_in space s k ∷ [])
  FunctionsAbove Nothing = ¬ (bus ≡ root) × (leading_to bus (registers_of space s) ≡ [])
  FunctionsAbove Several = ¬ (bus ≡ root) × TwoOf (leading_to bus (registers_of space s))

  module _ (f : Framed 1 s) where
    as_many : length (leading_to bus (registers_of space s)) ≡ length (leaders_of (entries_of s) bus)
    as_many = length_leading space bus 1 (entries_of s)

    off_root : (p : rule.Parent) → parent_of root (entries_of s) bus ≡ p → (rule.under_host ≡ p → ⊥) → ¬ (bus ≡ root)
    off_root p is other e = let host : parent_of root (entries_of s) bus ≡ rule.under_host = rw (eq-eqb bus root e) in other (sym host ∙ is)

    among : ¬ (bus ≡ root) → (p : rule.Parent) → parent_of root (entries_of s) bus ≡ p → parent_among (leaders_of (entries_of s) bus) ≡ p
    among off p is =
        let m : parent_of root (entries_of s) bus ≡ parent_among (leaders_of (entries_of s) bus) = rw (ne_eqb bus root off) in sym m ∙ is

    root_of_host : (t : Bool) → eqb bus root ≡ t → (bs : List Entry) → cond t rule.under_host (parent_among bs) ≡ rule.under_host → bus ≡ root
    root_of_host true q bs p = eqb-true bus root q
    root_of_host false q [] p = absurd (let z : ◌≡◌ {A = ℕ} 0 1 = cc p in omega arith)
    root_of_host false q (b ∷ []) p = absurd (let z : ◌≡◌ {A = ℕ} 0 1 = cc p in omega arith)
    root_of_host false q (b ∷ c ∷ bs) p = absurd (let z : ◌≡◌ {A = ℕ} 0 1 = cc p in omega arith)

    leads_here : (k : ℕ) → k < length (entries_of s) → parent_of root (entries_of s) bus ≡ rule.under_bridge (entry_of (part_at s k))
        → function_in space s k ∈ leading_to bus (registers_of space s)
    leads_here k inside is =
        keep_intro (λ x. is_above bus x.node) (registers_of space s) (function_index s f space k inside)
        (leads_of_parent root (entries_of s) bus (entry_of (part_at s k)) is)

    pub functions_above : (r : Parent) → IsParent s root bus r → FunctionsAbove r
    functions_above Host told = root_of_host (eqb bus root) refl (leaders_of (entries_of s) bus) told.same
    functions_above (Bridge k) told =
        let off = off_root _ told.same (λ e. let z : ◌≡◌ {A = ℕ} 0 1 = cc e in omega arith) in (
          off,
          one_of (leaders_of (entries_of s) bus) (leading_to bus (registers_of space s)) as_many _ (among off _ told.same)
              (function_in space s k) (leads_here k (told.whole k refl).inside told.same),
        )
    functions_above Nothing told =
        let off = off_root _ told.same (λ e. let z : ◌≡◌ {A = ℕ} 0 1 = cc e in omega arith) in
        (off, none_of (leaders_of (entries_of s) bus) (leading_to bus (registers_of space s)) as_many (among off _ told.same))
    functions_above Several told =
        let off = off_root _ told.same (λ e. let z : ◌≡◌ {A = ℕ} 0 1 = cc e in omega arith) in
        (off, two_of (leaders_of (entries_of s) bus) (leading_to bus (registers_of space s)) as_many (among off _ told.same))
