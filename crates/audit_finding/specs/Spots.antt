-- What a check says of one record, and of the first that it says something of, in the words of the code. Assumes nothing.
use Rattle.std.proofs.Math.Path.{◌≡◌, refl, sym, ap, ap₂}
use Rattle.std.proofs.Common.{◌∙◌, arith}
use Rattle.std.specs.Prelude.{Bool, ◌||◌, List, [], ◌∷◌, ℕ, ◌+◌, ◌≤◌, ◌<◌, length}
use Rattle.std.proofs.Math.Bool.{true, false, cond}
use Rattle.std.proofs.lemmas.Option.{same_Some}
use Rattle.lists.specs.Lists.{any}
use Rattle.board_record.specs.declared.Host.{Host}
use Rattle.sheet_record.specs.Entry.{Entry, entry_of}
use Rattle.sheet.specs.Sheet.{Framed, entries_from, entries_of, part_at, record_at}
use Rattle.sheet.proofs.CheckLaws.{count_entries, entries_past}
use Rattle.sheet.proofs.IndexLaws.{entries_index}
use Rattle.finding.specs.declared.Party.{Party}
use Rattle.finding.specs.declared.Parties.{Parties}
use Rattle.finding.specs.declared.Wrong.{Wrong}
use Rattle.finding.specs.Places.{Spot, right, wrong_at, nobody, nobodies}
use Rattle.finding.specs.First.{first}
use Rattle.finding.specs.FirstLaws.{first_hit, first_miss, first_nil, first_same}
use Rattle.audit_finding.specs.declared.Check.{Check}
use Rattle.audit_finding.specs.Placed.{Numbered, numbered_from}
use Rattle.audit_finding.specs.Fails.{fails}
use Rattle.audit_finding.specs.Where.{Mark, place_in, other_of}
use Rattle.audit_finding.specs.Finding.{named}

unfoldable pub spot_at : Check → Host → List Entry → Numbered → Spot
spot_at c h es r = cond (fails c h es r) (wrong_at (place_in c h es r) (other_of c h es r)) right

-- the first place of a list that is wrong
abbrev pub spot_in : List Mark → Spot
spot_in ms = first (λ m. m.wrong) (λ m. wrong_at m.place nobody) right ms

-- ## The first of a list, as one spot

pub spot_first : {A : Type 0} (t : A → Bool) (f : A → ℕ) (g : A → Party) (xs : List A)
    → first t (λ x. wrong_at (f x) (g x)) right xs ≡ cond (any t xs) (wrong_at (first t f 0 xs) (first t g nobody xs)) right
unfolding first any
spot_first t f g [] = refl
spot_first {A} t f g (x ∷ xs) = go (t x) (spot_first t f g xs)
  where
    go : (b : Bool)
        → first t (λ x. wrong_at (f x) (g x)) right xs ≡ cond (any t xs) (wrong_at (first t f 0 xs) (first t g nobody xs)) right
        → cond b (wrong_at (f x) (g x)) (first t (λ x. wrong_at (f x) (g x)) right xs)
        ≡ cond (b || any t xs) (wrong_at (cond b (f x) (first t f 0 xs)) (cond b (g x) (first t g nobody xs))) right
    go true e = refl
    go false e = e

-- with nobody else
pub spot_alone : {A : Type 0} (t : A → Bool) (f : A → ℕ) (xs : List A)
    → first t (λ x. wrong_at (f x) nobody) right xs ≡ cond (any t xs) (wrong_at (first t f 0 xs) nobody) right
spot_alone t f xs =
    spot_first t f (λ x. nobody) xs ∙ ap (λ (o : Party). cond (any t xs) (wrong_at (first t f 0 xs) o) right) (first_same t nobody xs)

-- ## A sheet's records, by their index from 0

abbrev pub record_of : List ℕ → ℕ → Numbered
record_of s k = record { number = k + 1; entry = entry_of (part_at s k) }

-- those from the one at k on
abbrev pub records_from : List ℕ → ℕ → List Numbered
records_from s k = numbered_from (k + 1) (entries_from s (record_at k))

module _ (s : List ℕ) (f : Framed 1 s) (n k : ℕ) (count : n ≡ length (entries_of s)) where
  pub records_past : n ≤ k → records_from s k ≡ []
  unfolding numbered_from
  records_past h = ap (numbered_from (k + 1)) (entries_past s (record_at k) (omega (arith, count, h, count_entries s f)))

  pub records_left : k < n → records_from s k ≡ record_of s k ∷ records_from s (k + 1)
  unfolding numbered_from
  records_left h = ap (numbered_from (k + 1)) (entries_index s f k (omega (arith, count, h)))

  -- one turn of a search
  module _ {B : Type 0} (t : Numbered → Bool) (say : Numbered → B) (none : B) where
    pub pass_past : n ≤ k → first t say none (records_from s k) ≡ none
    pass_past h = ap (first t say none) (records_past h) ∙ first_nil t say none

    pub pass_hit : k < n → t (record_of s k) ≡ true → first t say none (records_from s k) ≡ say (record_of s k)
    pass_hit h e = ap (first t say none) (records_left h) ∙ first_hit t say none (record_of s k) (records_from s (k + 1)) e

    pub pass_miss : k < n → t (record_of s k) ≡ false → first t say none (records_from s k) ≡ first t say none (records_from s (k + 1))
    pass_miss h e = ap (first t say none) (records_left h) ∙ first_miss t say none (record_of s k) (records_from s (k + 1)) e

  -- one turn of the search for the first that fails
  module _ (c : Check) (h : Host) (es : List Entry) (x : Spot) (is : x ≡ spot_at c h es (record_of s k)) where
    abbrev from : ℕ → Parties
    from j = first (fails c h es) (named c h es) nobodies (records_from s j)

    pub turn_right : k < n → x ≡ right → from k ≡ from (k + 1)
    unfolding spot_at
    turn_right l e = go (fails c h es (record_of s k)) refl
      where
        go : (b : Bool) → fails c h es (record_of s k) ≡ b → from k ≡ from (k + 1)
        go true w =
            absurd (let z : ◌≡◌ {A = ℕ} 0 1 =
            cc (e, is, ap (λ (b : Bool). cond b (wrong_at (place_in c h es (record_of s k)) (other_of c h es (record_of s k))) right) w) in
            omega arith)
        go false w = pass_miss (fails c h es) (named c h es) nobodies l w

    pub turn_wrong : k < n → (place : ℕ) (other : Party) → x ≡ wrong_at place other
        → from k ≡ record { party = record { number = k + 1; place = place }; other = other }
    unfolding spot_at
    turn_wrong l place other e = go (fails c h es (record_of s k)) refl
      where
        go : (b : Bool) → fails c h es (record_of s k) ≡ b
            → from k ≡ record { party = record { number = k + 1; place = place }; other = other }
        go true w =
            let r = record_of s k in
            let all : wrong_at (place_in c h es r) (other_of c h es r) ≡ wrong_at place other =
            sym (ap (λ (b : Bool). cond b (wrong_at (place_in c h es r) (other_of c h es r)) right) w) ∙ sym is ∙ e in
            let same = same_Some _ _ all in
            let places : place_in c h es r ≡ place = ap (λ (w : Wrong). w.place) same in
            let others : other_of c h es r ≡ other = ap (λ (w : Wrong). w.other) same in
            pass_hit (fails c h es) (named c h es) nobodies l w
            ∙ ap₂ (λ (p : ℕ) (o : Party). record { party = record { number = k + 1; place = p }; other = o }) places others
        go false w =
            absurd (let z : ◌≡◌ {A = ℕ} 0 1 =
            cc (e, is, ap (λ (b : Bool). cond b (wrong_at (place_in c h es (record_of s k)) (other_of c h es (record_of s k))) right) w) in
            omega arith)
