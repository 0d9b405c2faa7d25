-- After every history from empty each key has one place, and each word says what the header asked for by which it was opened, less what
-- was delivered since.
-- Assumes nothing.
use Rattle.std.specs.Prelude.{◌≡◌, refl, Bool, true, false, List, [], ◌∷◌, ℕ, zero, suc, ◌<◌, length, get_or, set, replicate, eqb}
use Rattle.std.proofs.Common.{sym, ap, ◌∙◌, arith, get_or-set_same, get_or-set_other, eq-eqb, ne_eqb, eqb-true}
use Rattle.std.proofs.lemmas.Bool.{eqb-false}
use Rattle.endian.specs.Endian.{Bytes}
use Rattle.lists.specs.Lists.{All}
use Rattle.tlp.specs.Reading.{read_of}
use Rattle.ledger.specs.declared.Verdict.{Verdict}
use Rattle.ledger.specs.declared.Verdict.TheVariants.{Opened, Kept, Closed, Refused}
use Rattle.ledger.specs.Words.{key_in}
use Rattle.ledger.proofs.PlacesLaws.{place_none}
use Rattle.ledger.specs.Ledger.{words_after}
use Rattle.ledger.specs.History.{Call, opens, completes, header_of, verdict_of, after, key_is, key_by, dwords_by, succeeds_by}
use Rattle.ledger.specs.History.{opener_by, delivered_by, opener_of, delivered}
use Rattle.ledger.specs.Standing.{Holds}
use Rattle.ledger.proofs.StepLaws.{Opens, Completes, Keeps, Step, opening, keeping, closing, refusing, step_of}
use Rattle.ledger.proofs.HistoryLaws.{opens_holds, opens_key, key_not_zero, completes_key, completes_used, keeps_open}

-- ## One word changed

module _ (ws : List ℕ) (i w : ℕ) (inside : i < length ws) where
  at_place : (j : ℕ) → j ≡ i → get_or (set ws i w) j 0 ≡ w
  at_place j e = ap (λ (k : ℕ). get_or (set ws i w) k 0) e ∙ get_or-set_same ws i w 0 inside

  -- what holds of the new word, and of each other word, holds of all
  pub each_set : (P : ℕ → Type 0) → P w → ((j : ℕ) → (j ≡ i → ⊥) → P (get_or ws j 0)) → (j : ℕ) → P (get_or (set ws i w) j 0)
  each_set P new old j = go (eqb j i) refl
    where
      go : (b : Bool) → eqb j i ≡ b → P (get_or (set ws i w) j 0)
      go true e = rw (at_place j (eqb-true j i e)) new
      go false e = rw (get_or-set_other ws i j w 0 (eqb-false j i e)) (old j (eqb-false j i e))

-- ## One place for each key

abbrev pub OneKey : List ℕ → Type 0
OneKey ws = (i j : ℕ) → (key_in (get_or ws i 0) ≡ 0 → ⊥) → key_in (get_or ws i 0) ≡ key_in (get_or ws j 0) → i ≡ j

-- no other place has the new word's key, unless it is a free one
one_key_set : (ws : List ℕ) (i w : ℕ) → i < length ws → OneKey ws
    → ((j : ℕ) → (j ≡ i → ⊥) → (key_in w ≡ 0 → ⊥) → key_in (get_or ws j 0) ≡ key_in w → ⊥) → OneKey (set ws i w)
one_key_set ws i w inside one others a b = go (eqb a i) (eqb b i) refl refl
  where
    go : (x y : Bool) → eqb a i ≡ x → eqb b i ≡ y → (key_in (get_or (set ws i w) a 0) ≡ 0 → ⊥)
        → key_in (get_or (set ws i w) a 0) ≡ key_in (get_or (set ws i w) b 0) → a ≡ b
    go true true x y = λ used same. eqb-true a i x ∙ sym (eqb-true b i y)
    go true false x y =
        rw (at_place ws i w inside a (eqb-true a i x), get_or-set_other ws i b w 0 (eqb-false b i y))
        (λ used same. absurd (others b (eqb-false b i y) used (sym same)))
    go false true x y =
        rw (get_or-set_other ws i a w 0 (eqb-false a i x), at_place ws i w inside b (eqb-true b i y))
        (λ used same. absurd (others a (eqb-false a i x) (λ e. used (same ∙ e)) same))
    go false false x y =
        rw (get_or-set_other ws i a w 0 (eqb-false a i x), get_or-set_other ws i b w 0 (eqb-false b i y))
        (λ used same. one a b used same)

one_key_step : (ws : List ℕ) (c : Call) (v : Verdict) → Bytes (header_of c) → Step ws c v → OneKey ws → OneKey (words_after v ws)
one_key_step ws c v bytes (opening {s} {i} {w} o) one =
    one_key_set ws i w o.inside one
    (λ j other used same.
    place_none (key_is o.packet) ws o.new (key_not_zero o.packet) j (same ∙ opens_key bytes o))
one_key_step ws c v bytes (keeping {s} {i} {w} k) one =
    one_key_set ws i w k.completes.inside one
    (λ j other used same. other (sym (one i j (completes_used k.completes) (sym (keeps_open k).key ∙ sym same))))
one_key_step ws c v bytes (closing {s} {i} t) one = one_key_set ws i 0 t.inside one (λ j other used same. used refl)
one_key_step ws c v bytes refusing one = one

-- ## What each word says

-- openers and dwords delivered, by key
abbrev pub Stands : (ℕ → List ℕ) → (ℕ → ℕ) → ℕ → Type 0
Stands openers gives w = (key_in w ≡ 0 → ⊥) → Holds w (openers (key_in w)) (gives (key_in w))

module _ (openers : ℕ → List ℕ) (gives : ℕ → ℕ) (ws : List ℕ) (one : OneKey ws) (each : (i : ℕ) → Stands openers gives (get_or ws i 0)) where
  -- under another key nothing moves
  stands_other : (c : Call) (v : Verdict) (w : ℕ) → (key_by (read_of (header_of c)) ≡ key_in w → ⊥) → Stands openers gives w
      → Stands (λ k. opener_by k c v (openers k)) (λ k. delivered_by k c v (gives k)) w
  stands_other c (Opened i x) w other stands = rw (ne_eqb (key_by (read_of (header_of c))) (key_in w) other) stands
  stands_other c (Kept i x) w other stands = rw (ne_eqb (key_by (read_of (header_of c))) (key_in w) other) stands
  stands_other c (Closed i) w other stands = rw (ne_eqb (key_by (read_of (header_of c))) (key_in w) other) stands
  stands_other c (Refused n) w other stands = stands

  -- a completion's key has no other place
  other_key : {s : List ℕ} {i : ℕ} → Completes s ws i → (j : ℕ) → (j ≡ i → ⊥) → key_by (read_of s) ≡ key_in (get_or ws j 0) → ⊥
  other_key {s} {i} t j other e = other (sym (one i j (completes_used t) (completes_key t ∙ sym (ap key_by t.read) ∙ e)))

  stands_opened : {s : List ℕ} {i w : ℕ} → Bytes s → (o : Opens s ws i w)
      → Stands (λ k. opener_by k (opens s) (Opened i w) (openers k)) (λ k. delivered_by k (opens s) (Opened i w) (gives k)) w
  stands_opened {s} {i} {w} bytes o used =
      let holds = opens_holds bytes o in
      let key : key_by (read_of s) ≡ key_in w = ap key_by holds.read ∙ sym holds.key in
      rw (eq-eqb (key_by (read_of s)) (key_in w) key) holds

  stands_kept : {s : List ℕ} {i w : ℕ} → (k : Keeps s ws i w)
      → Stands (λ n. opener_by n (completes s) (Kept i w) (openers n)) (λ n. delivered_by n (completes s) (Kept i w) (gives n)) w
  stands_kept {s} {i} {w} k used =
      let t = k.completes in
      let stays = keeps_open k in
      let before = each i (completes_used t) in
      let key : key_by (read_of s) ≡ key_in w = ap key_by t.read ∙ sym (stays.key ∙ completes_key t) in
      let success : succeeds_by (read_of s) ≡ true = ap succeeds_by t.read ∙ k.success in
      let opener : openers (key_in w) ≡ openers (key_in (get_or ws i 0)) = ap openers stays.key in
      let given : gives (key_in w) ≡ gives (key_in (get_or ws i 0)) = ap gives stays.key in
      let dwords : dwords_by (read_of s) ≡ t.head.length = ap dwords_by t.read in
      rw (eq-eqb (key_by (read_of s)) (key_in w) key, success)
      (record {
        packet = before.packet;
        read = ap read_of opener ∙ before.read;
        key = stays.key ∙ before.key;
        reads = stays.reads ∙ before.reads;
        configures = stays.configures ∙ before.configures;
        locks = stays.locks ∙ before.locks;
        left = omega (arith, before.left, stays.left, given, dwords);
        some = omega (arith, stays.left, k.part);
      })

  stands_step : (c : Call) (v : Verdict) → Bytes (header_of c) → Step ws c v → (j : ℕ)
      → Stands (λ k. opener_by k c v (openers k)) (λ k. delivered_by k c v (gives k)) (get_or (words_after v ws) j 0)
  stands_step c v bytes (opening {s} {i} {w} o) =
      each_set ws i w o.inside (Stands (λ k. opener_by k c v (openers k)) (λ k. delivered_by k c v (gives k))) (stands_opened bytes o)
      (λ j other.
      stands_other c v (get_or ws j 0)
      (λ e. place_none (key_is o.packet) ws o.new (key_not_zero o.packet) j (sym e ∙ ap key_by o.read)) (each j))
  stands_step c v bytes (keeping {s} {i} {w} k) =
      each_set ws i w k.completes.inside (Stands (λ n. opener_by n c v (openers n)) (λ n. delivered_by n c v (gives n))) (stands_kept k)
      (λ j other. stands_other c v (get_or ws j 0) (other_key k.completes j other) (each j))
  stands_step c v bytes (closing {s} {i} t) =
      each_set ws i 0 t.inside (Stands (λ n. opener_by n c v (openers n)) (λ n. delivered_by n c v (gives n)))
      (λ used. absurd (used refl))
      (λ j other. stands_other c v (get_or ws j 0) (other_key t j other) (each j))
  stands_step c v bytes refusing = each

-- ## After every history

pub record Standing (cs : List Call) : Type 0 where
  pub one : OneKey (after cs)
  pub each : (i : ℕ) → Stands (λ k. opener_of k cs) (λ k. delivered k cs) (get_or (after cs) i 0)

free_at_start : (n i : ℕ) → key_in (get_or (replicate n 0) i 0) ≡ 0
free_at_start zero i = refl
free_at_start (suc n) zero = refl
free_at_start (suc n) (suc i) = free_at_start n i

pub standing : (cs : List Call) → All (λ c. Bytes (header_of c)) cs → Standing cs
unfolding after opener_of delivered
standing [] h =
    record { one = λ i j used same. absurd (used (free_at_start 256 i)); each = λ i used. absurd (used (free_at_start 256 i)) }
standing (c ∷ cs) h =
    let s = standing cs h.1 in
    let v = verdict_of c (after cs) in
    let step = step_of c (after cs) in
    record {
      one = one_key_step (after cs) c v h.0 step s.one;
      each = stands_step (λ k. opener_of k cs) (λ k. delivered k cs) (after cs) s.one s.each c v h.0 step;
    }
