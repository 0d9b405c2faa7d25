-- The segment of a key, by where it stands on the line; keys in order have theirs in order. Assumes nothing.
use Rattle.std.specs.Prelude.{◌≡◌, refl, Bool, true, false, cond, ℕ, ◌≤◌, ◌<◌, ltb}
use Rattle.std.proofs.lemmas.Bool.{false≢true}
use Rattle.std.proofs.Common.{arith, ltb-true, lt-ltb, le-ltb}
use Rattle.index_layout.specs.Keys.{low_end, memory_end, id_base, segment_of}

pub segment_low : (key : ℕ) → key < low_end → segment_of key ≡ 0
unfolding segment_of
segment_low key h = rw (lt-ltb key low_end h)

pub segment_high : (key : ℕ) → low_end ≤ key → key < memory_end → segment_of key ≡ 1
unfolding segment_of
segment_high key l h = rw (le-ltb key low_end l, lt-ltb key memory_end h)

pub segment_io : (key : ℕ) → memory_end ≤ key → key < id_base → segment_of key ≡ 2
unfolding segment_of
segment_io key l h =
    let f : low_end ≤ key = omega (arith, l) in
    rw (le-ltb key low_end f, le-ltb key memory_end l, lt-ltb key id_base h)

pub segment_id : (key : ℕ) → id_base ≤ key → segment_of key ≡ 3
unfolding segment_of
segment_id key l =
    let f : low_end ≤ key = omega (arith, l) in
    let g : memory_end ≤ key = omega (arith, l) in
    rw (le-ltb key low_end f, le-ltb key memory_end g, le-ltb key id_base l)

-- four cases, one number
pick_lt : (a b c : Bool) → cond a 0 (cond b 1 (cond c 2 3)) < 4
pick_lt true b c = omega arith
pick_lt false true c = omega arith
pick_lt false false true = omega arith
pick_lt false false false = omega arith

pub segment_lt : (key : ℕ) → segment_of key < 4
unfolding segment_of
segment_lt key = pick_lt (ltb key low_end) (ltb key memory_end) (ltb key id_base)

-- each test falls as the key grows
test_falls : (x y e : ℕ) → x ≤ y → ltb y e ≡ true → ltb x e ≡ true
test_falls x y e h t = lt-ltb x e (omega (arith, h, ltb-true y e t))

pick_rises : (a b c d e f : Bool) → (d ≡ true → a ≡ true) → (e ≡ true → b ≡ true) → (f ≡ true → c ≡ true)
    → cond a 0 (cond b 1 (cond c 2 3)) ≤ cond d 0 (cond e 1 (cond f 2 3))
pick_rises true b c d e f p q r = omega arith
pick_rises false b c true e f p q r = absurd (false≢true (p refl))
pick_rises false true c false true f p q r = omega arith
pick_rises false true c false false true p q r = omega arith
pick_rises false true c false false false p q r = omega arith
pick_rises false false c false true f p q r = absurd (false≢true (q refl))
pick_rises false false true false false true p q r = omega arith
pick_rises false false true false false false p q r = omega arith
pick_rises false false false false false true p q r = absurd (false≢true (r refl))
pick_rises false false false false false false p q r = omega arith

pub segment_monotone : (x y : ℕ) → x ≤ y → segment_of x ≤ segment_of y
unfolding segment_of
segment_monotone x y h =
    pick_rises (ltb x low_end) (ltb x memory_end) (ltb x id_base) (ltb y low_end) (ltb y memory_end)
    (ltb y id_base) (test_falls x y low_end h) (test_falls x y memory_end h) (test_falls x y id_base h)
