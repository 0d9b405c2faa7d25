-- Who stands above a bus, by records, by their nodes and by number: one bridge is one node, and a record's number tells it. Assumes
-- nothing.
use Rattle.std.specs.Prelude.{◌≡◌, refl, ◌⊎◌, Bool, true, false, cond, ℕ, suc, ◌+◌, ◌-◌, ◌≤◌, ◌<◌, length, get_or, eqb}
use Rattle.std.proofs.Common.{sym, ◌∙◌, inl, inr, arith, eqb-true, ne_eqb}
use Rattle.std.proofs.Math.Path.{ap}
use mathlib.Core.List.{List, [], ◌∷◌, cons≢nil}
use Rattle.std.proofs.Math.ListN.{get_or-map}
use Rattle.std.proofs.lemmas.Bool.{eqb-false}
use Rattle.lists.specs.Lists.{keep}
use Rattle.walk.specs.Registers.{Node}
use Rattle.walk.specs.Above.{bridges_to}
use Rattle.sheet_record.specs.Entry.{Entry, entry_of}
use Rattle.sheet_record.specs.Spaces.{node_of}
use Rattle.sheet.specs.Sheet.{Framed, parts_in, part_at, entries_from, entries_of, record_at}
use Rattle.sheet.proofs.FrameLaws.{part_index}
use Rattle.sheet.proofs.CheckLaws.{count_entries, entries_past}
use Rattle.sheet.proofs.IndexLaws.{length_entries, entries_index}
use Rattle.sheet.specs.Spaces.{nodes_from}
use Rattle.sheet_above.specs.Parents.{leads_to, leaders_of, under_host, under_bridge, under_none, under_several, parent_among, parent_of}
use Rattle.sheet_above.specs.Parents.{several, joined, leader_from, leader_of}

-- ## By nodes

-- each node is that of its record, whatever its number
abbrev Agree : List Entry → List Node → Type 0
Agree [] [] = Unit {0}
Agree [] (n ∷ ns) = ⊥
Agree (e ∷ es) [] = ⊥
Agree (e ∷ es) (n ∷ ns) = ((k : ℕ) × (n ≡ node_of k e)) × Agree es ns

agree_leaders : (bus k : ℕ) (es : List Entry) → Agree (leaders_of es bus) (bridges_to bus (nodes_from k es))
unfolding keep nodes_from
agree_leaders bus k [] = tt
agree_leaders bus k (e ∷ es) = go (leads_to bus e) (agree_leaders bus (k + 1) es)
  where
    go : (t : Bool) → Agree (leaders_of es bus) (bridges_to bus (nodes_from (k + 1) es))
        → Agree (cond t (e ∷ leaders_of es bus) (leaders_of es bus))
        (cond t (node_of k e ∷ bridges_to bus (nodes_from (k + 1) es)) (bridges_to bus (nodes_from (k + 1) es)))
    go true a = ((k, refl), a)
    go false a = a

-- exactly one bridge leads to the bus
pub record LedBy (k : ℕ) (es : List Entry) (bus : ℕ) (b : Entry) : Type 0 where
  pub number : ℕ
  pub leader_is : leaders_of es bus ≡ b ∷ []
  pub bridge_is : bridges_to bus (nodes_from k es) ≡ node_of number b ∷ []

-- none, or several
abbrev pub NotLed : ℕ → List Entry → ℕ → Type 0
NotLed k es bus = (n : Node) → bridges_to bus (nodes_from k es) ≡ n ∷ [] → ⊥

-- the three places that a function's bus may have
pub data Stands (root k : ℕ) (es : List Entry) (bus : ℕ) : Type 0 where
  at_root : bus ≡ root → parent_of root es bus ≡ under_host → Stands root k es bus
  below : (bus ≡ root → ⊥) → (b : Entry) → LedBy k es bus b → parent_of root es bus ≡ under_bridge b → Stands root k es bus
  nowhere : (bus ≡ root → ⊥) → NotLed k es bus → (parent_of root es bus ≡ under_none) ⊎ (parent_of root es bus ≡ under_several)
      → Stands root k es bus

pub stands : (root k : ℕ) (es : List Entry) (bus : ℕ) → Stands root k es bus
stands root k es bus = go (eqb bus root) refl
  where
    off : eqb bus root ≡ false → (bs : List Entry) (ns : List Node) → leaders_of es bus ≡ bs → bridges_to bus (nodes_from k es) ≡ ns
        → Agree bs ns → Stands root k es bus
    off e [] [] l b a =
        nowhere (eqb-false bus root e) (λ n one. cons≢nil (sym one ∙ b)) (inl (rw (e, l)))
    off e [] (n ∷ ns) l b a = absurd a
    off e (x ∷ xs) [] l b a = absurd a
    off e (x ∷ []) (n ∷ []) l b ((j, same), rest) =
        below (eqb-false bus root e) x (record { number = j; leader_is = l; bridge_is = b ∙ ap (λ (m : Node). m ∷ []) same }) (rw (e, l))
    off e (x ∷ []) (n ∷ m ∷ ns) l b (one, rest) = absurd rest
    off e (x ∷ y ∷ xs) (n ∷ []) l b (one, rest) = absurd rest
    off e (x ∷ y ∷ xs) (n ∷ m ∷ ns) l b a =
        nowhere (eqb-false bus root e) (λ z one. omega (arith, ap length one, ap length b)) (inr (rw (e, l)))

    go : (t : Bool) → eqb bus root ≡ t → Stands root k es bus
    go true e = at_root (eqb-true bus root e) (rw e)
    go false e = off e (leaders_of es bus) (bridges_to bus (nodes_from k es)) refl refl (agree_leaders bus k es)

-- ## By number

-- whatever parts of a sheet are joined first
pub joined_assoc : (a b c : ℕ) → joined (joined a b) c ≡ joined a (joined b c)
joined_assoc a b c = go (eqb a 0) refl (eqb b 0) refl (eqb c 0) refl
  where
    go : (s : Bool) → eqb a 0 ≡ s → (t : Bool) → eqb b 0 ≡ t → (u : Bool) → eqb c 0 ≡ u
        → joined (cond s b (cond t a several)) c ≡ cond s (joined b c) (cond (eqb (joined b c) 0) a several)
    go true ea t eb u ec = refl
    go false ea true eb true ec = rw (ea, eb, ec)
    go false ea true eb false ec = rw (ea, eb, ec)
    go false ea false eb true ec = rw (eb, ec, eb)
    go false ea false eb false ec = rw (eb, ec)

pub joined_none : (n : ℕ) → joined n 0 ≡ n
joined_none n = go (eqb n 0) refl
  where
    go : (t : Bool) → eqb n 0 ≡ t → cond t 0 n ≡ n
    go true e = sym (eqb-true n 0 e)
    go false e = refl

-- a bus's number when a bridge is met, in the words of the code
pub joined_bridge : (n k : ℕ) → 0 < k → joined n k ≡ cond (eqb n 0) k several
joined_bridge n k h = rw (ne_eqb k 0 (λ z. omega (arith, z)))

-- the number of record i, from 0, of records that are numbered from k on
pub record NumberOf (k : ℕ) (es : List Entry) (bus : ℕ) (b : Entry) : Type 0 where
  pub index : ℕ
  pub inside : index < length es
  pub number_is : leader_from k es bus ≡ k + index
  pub entry_is : (default : Entry) → get_or es index default ≡ b

abbrev Told : ℕ → List Entry → ℕ → List Entry → Type 0
Told k es bus [] = leader_from k es bus ≡ 0
Told k es bus (b ∷ []) = NumberOf k es bus b
Told k es bus (b ∷ c ∷ bs) = leader_from k es bus ≡ several

told : (k : ℕ) (es : List Entry) (bus : ℕ) → 0 < k → Told k es bus (leaders_of es bus)
unfolding keep leader_from
told k [] bus h = refl
told k (e ∷ es) bus h = go (leads_to bus e) refl (leaders_of es bus) (told (k + 1) es bus (omega arith))
  where
    more : leads_to bus e ≡ true → (leader_from (k + 1) es bus ≡ 0 → ⊥)
        → joined (cond (leads_to bus e) k 0) (leader_from (k + 1) es bus) ≡ several
    more is some = rw (is, ne_eqb k 0 (λ z. omega (arith, z)), ne_eqb (leader_from (k + 1) es bus) 0 some)

    go : (t : Bool) → leads_to bus e ≡ t → (bs : List Entry) → Told (k + 1) es bus bs → Told k (e ∷ es) bus (cond t (e ∷ bs) bs)
    go true is [] none =
        record {
          index = 0;
          inside = omega arith;
          number_is = rw (is, none, ne_eqb k 0 (λ z. omega (arith, z))) (omega arith);
          entry_is = λ default. refl;
        }
    go true is (b ∷ []) one = more is (λ z. omega (arith, z, one.number_is))
    go true is (b ∷ c ∷ bs) many = more is (λ z. omega (arith, z, many))
    go false is [] none = rw is none
    go false is (b ∷ []) one =
        record {
          index = suc one.index;
          inside = omega (arith, one.inside);
          number_is = rw is (omega (arith, one.number_is));
          entry_is = λ default. one.entry_is default;
        }
    go false is (b ∷ c ∷ bs) many = rw is many

-- what the records from k on say of a bus, n records in all
module _ (s : List ℕ) (f : Framed 1 s) (n k : ℕ) (count : n ≡ length (entries_of s)) where
  pub leader_left_lem : k < n → (bus : ℕ) → leader_from (k + 1) (entries_from s (record_at k)) bus
      ≡ joined (cond (leads_to bus (entry_of (part_at s k))) (k + 1) 0) (leader_from (k + 1 + 1) (entries_from s (record_at (k + 1))) bus)
  unfolding leader_from
  leader_left_lem h bus = ap (λ (es : List Entry). leader_from (k + 1) es bus) (entries_index s f k (omega (arith, count, h)))

  pub leader_past : n ≤ k → (bus : ℕ) → leader_from (k + 1) (entries_from s (record_at k)) bus ≡ 0
  unfolding leader_from
  leader_past h bus =
      ap (λ (es : List Entry). leader_from (k + 1) es bus) (entries_past s (record_at k) (omega (arith, count, h, count_entries s f)))

-- of a sheet with fewer records than the number for several
module _ (s : List ℕ) (framed : Framed 1 s) (few : length (entries_of s) < several) (root bus : ℕ) (off : bus ≡ root → ⊥) where
  entry_index : (i : ℕ) → i < length (entries_of s) → get_or (entries_of s) i (entry_of []) ≡ entry_of (part_at s i)
  unfolding entries_from
  entry_index i h = get_or-map entry_of (parts_in s) i [] ∙ ap entry_of (part_index s i framed (omega (arith, h, length_entries s)))

  among : parent_of root (entries_of s) bus ≡ parent_among (leaders_of (entries_of s) bus)
  among = rw (ne_eqb bus root off)

  pub parent_of_none : leader_of (entries_of s) bus ≡ 0 → parent_of root (entries_of s) bus ≡ under_none
  parent_of_none z = among ∙ go (leaders_of (entries_of s) bus) (told 1 (entries_of s) bus (omega arith))
    where
      go : (bs : List Entry) → Told 1 (entries_of s) bus bs → parent_among bs ≡ under_none
      go [] t = refl
      go (b ∷ []) t = absurd (omega (arith, z, t.number_is))
      go (b ∷ c ∷ bs) t = absurd (omega (arith, z, t))

  pub parent_of_several : leader_of (entries_of s) bus ≡ several → parent_of root (entries_of s) bus ≡ under_several
  parent_of_several z = among ∙ go (leaders_of (entries_of s) bus) (told 1 (entries_of s) bus (omega arith))
    where
      go : (bs : List Entry) → Told 1 (entries_of s) bus bs → parent_among bs ≡ under_several
      go [] t = absurd (omega (arith, z, t))
      go (b ∷ []) t = absurd (omega (arith, z, t.number_is, t.inside, few))
      go (b ∷ c ∷ bs) t = refl

  -- record n, numbered from 1, is part n - 1
  pub parent_of_number : (n : ℕ) → leader_of (entries_of s) bus ≡ n → (n ≡ 0 → ⊥) → (n ≡ several → ⊥)
      → (n - 1 < length (entries_of s)) × (parent_of root (entries_of s) bus ≡ under_bridge (entry_of (part_at s (n - 1))))
  parent_of_number n is some one = go (leaders_of (entries_of s) bus) refl (told 1 (entries_of s) bus (omega arith))
    where
      go : (bs : List Entry) → leaders_of (entries_of s) bus ≡ bs → Told 1 (entries_of s) bus bs
          → (n - 1 < length (entries_of s)) × (parent_of root (entries_of s) bus ≡ under_bridge (entry_of (part_at s (n - 1))))
      go [] l t = absurd (some (sym is ∙ t))
      go (b ∷ []) l t =
          let i : n - 1 ≡ t.index = omega (arith, is, t.number_is) in
          let e : entry_of (part_at s t.index) ≡ b = sym (entry_index t.index t.inside) ∙ t.entry_is (entry_of []) in
          rw i (t.inside, among ∙ ap parent_among l ∙ ap under_bridge (sym e))
      go (b ∷ c ∷ bs) l t = absurd (one (sym is ∙ t))
