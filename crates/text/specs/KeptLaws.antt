-- A piece more is kept, and what is kept is the front of all the bytes; how a piece goes on where the first bytes of an input are taken
-- apart from the rest. Assumes nothing.
use Rattle.std.specs.Prelude.{◌≡◌, refl, Bool, true, false, List, [], ◌∷◌, ◌++◌, ℕ, suc, ◌+◌, ◌-◌, ◌≤◌, min, length, set, take, drop, ltb}
use Rattle.std.proofs.Common.{sym, ap, ◌∙◌, append-nil, arith, take-append-drop, drop_of_length-le, take_at, take_all, length-take-le, ltb-true, ltb-false}
use Rattle.std.proofs.lemmas.List.Edits.{sets, sets-eq}
use Rattle.std.proofs.lemmas.List.{take-set-le, take-append-le, drop-append-le}
use Rattle.std.proofs.Math.Seq.{take-append-add, drop-append-add}
use Rattle.endian.specs.SetsLaws.{sets_sets}
use Rattle.text.specs.TextLaws.{put_append, put_length}
use Rattle.text.specs.Kept.{Kept}

-- ## Piece by piece

pub kept_start : (size : ℕ) (room : List ℕ) → length room ≡ size → Kept size [] 0 room
kept_start size room l = record { room_before = room; sized = l; put = record { stored = refl; place = omega arith } }

pub kept_more : {size count : ℕ} {s room : List ℕ} → Kept size s count room → (piece : List ℕ)
    → Kept size (s ++ piece) (min (count + length piece) size) (sets room count piece)
kept_more {size} {count} {s} {room} k piece =
    let l : length room ≡ size = put_length k.put ∙ k.sized in
    record { room_before = k.room_before; sized = k.sized; put = put_append k.put (record { stored = refl; place = rw l }) }

-- ## What is kept

-- stores from a place on leave what is before it
take_sets : (k : ℕ) (o : List ℕ) (i : ℕ) (vs : List ℕ) → k ≤ i → take k (sets o i vs) ≡ take k o
take_sets k o i [] h = refl
take_sets k o i (v ∷ vs) h = take_sets k (set o i v) (suc i) vs (omega arith) ∙ take-set-le k o i v h

-- the first bytes of what was put at the start, as far as there is room
front_of_sets : (k : ℕ) (o vs : List ℕ) → k ≤ length vs → k ≤ length o → take k (sets o 0 vs) ≡ take k vs
front_of_sets k o vs h l =
    let a = take k vs in
    let b = drop k vs in
    let n : length a ≡ k = length-take-le k vs h in
    ap (λ (x : List ℕ). take k (sets o 0 x)) (sym (take-append-drop k vs))
    ∙ ap (take k) (sym (sets_sets o 0 a b))
    ∙ take_sets k (sets o 0 a) (0 + length a) b (omega arith)
    ∙ ap (take k) (sets-eq a o 0 (omega arith))
    ∙ take_at a (drop (0 + length a) o) k n

module _ {size count : ℕ} {s room : List ℕ} (k : Kept size s count room) where
  pub count_of_kept : count ≡ min (length s) size
  count_of_kept = omega (arith, k.put.place, k.sized)

  pub front_kept : (n : ℕ) → n ≤ length s → n ≤ size → take n room ≡ take n s
  front_kept n h l = ap (take n) k.put.stored ∙ front_of_sets n k.room_before s h (omega (arith, k.sized))

  pub all_kept : length s ≤ size → take count room ≡ s
  all_kept h =
      let n : count ≡ length s = omega (arith, count_of_kept) in
      front_kept count (omega arith) (omega arith) ∙ take_all count s (omega arith)

-- ## The first k bytes of an input, and the rest: what of a piece more goes to either

module _ (k : ℕ) (s piece : List ℕ) where
  pub front_append : take k (s ++ piece) ≡ take k s ++ take (k - length s) piece
  front_append = go (ltb (length s) k) refl
    where
      go : (b : Bool) → ltb (length s) k ≡ b → take k (s ++ piece) ≡ take k s ++ take (k - length s) piece
      go true b =
          let h = ltb-true (length s) k b in
          let all : take k s ≡ s = take_all k s (omega arith) in
          let e : k ≡ length s + (k - length s) = omega arith in
          ap (λ (m : ℕ). take m (s ++ piece)) e
          ∙ take-append-add s piece (k - length s)
          ∙ ap (λ (x : List ℕ). x ++ take (k - length s) piece) (sym all)
      go false b =
          let h = ltb-false (length s) k b in
          let z : k - length s ≡ 0 = omega arith in
          take-append-le k s piece h
          ∙ sym (append-nil (take k s))
          ∙ ap (λ (m : ℕ). take k s ++ take m piece) (sym z)

  pub rest_append : drop k (s ++ piece) ≡ drop k s ++ drop (k - length s) piece
  rest_append = go (ltb (length s) k) refl
    where
      go : (b : Bool) → ltb (length s) k ≡ b → drop k (s ++ piece) ≡ drop k s ++ drop (k - length s) piece
      go true b =
          let h = ltb-true (length s) k b in
          let e : k ≡ length s + (k - length s) = omega arith in
          let none : drop k s ≡ [] = drop_of_length-le s {i = k} (omega arith) in
          ap (λ (m : ℕ). drop m (s ++ piece)) e
          ∙ drop-append-add s piece (k - length s)
          ∙ ap (λ (x : List ℕ). x ++ drop (k - length s) piece) (sym none)
      go false b =
          let h = ltb-false (length s) k b in
          let z : k - length s ≡ 0 = omega arith in
          drop-append-le k s piece h ∙ ap (λ (m : ℕ). drop k s ++ drop m piece) (sym z)
