-- What stands in a slice after ranges are put there, in the words of the code. Assumes nothing.
use Rattle.std.specs.Prelude.{◌≡◌, refl, Bool, true, false, cond, List, [], ◌∷◌, ◌++◌, ℕ, zero, suc, ◌+◌, ◌*◌, ◌/◌, ◌%◌, ◌≤◌, ◌<◌, eqb, leb, ltb, length, get_or, set}
use Rattle.std.proofs.Common.{sym, ap, ◌∙◌, append_assoc, append-nil, arith, add-one, length-set, get_or-set_same, get_or-set_other, eqb-true, le-leb}
use Rattle.std.proofs.lemmas.Bool.{eqb-false, lt-leb}
use Rattle.pools.specs.declared.Pool as pools
use Rattle.pools.specs.declared.Pool.TheVariants.{Low, High, Io}
use Rattle.window.specs.declared.Window.{Window}
use Rattle.window.specs.Window as windows
use Rattle.window.proofs.WindowLaws.{ltb_stop, closed_shut}
use Rattle.lists.specs.Lists.{one_if}
use Rattle.board_record.specs.declared.Span.{Span}
use Rattle.board_record.specs.declared.Host.{Host}
use Rattle.walk.specs.Ranges.{Range, Pool, buses, low, high, io}
use Rattle.sheet_record.specs.Entry.{header_of, is_bridge, entry_of, window_of}
use Rattle.sheet_record.specs.Spaces.{pool_of, open_range}
use Rattle.sheet_ranges.specs.Ranges.{windows_in, ranges_of, pools_in, pool_number, space_number}
use Rattle.sheet_ranges.specs.declared.Item.{Item}
use Rattle.sheet_ranges.specs.Items.{pool_with, range_of, item_at, ranges_from, ranges_in, open_item, bars_in}

-- ## Pools by number

-- by the last two bits
pub number_of_pool : (n : ℕ) → pool_number (pool_with n) ≡ n % 4
unfolding pool_with
number_of_pool n = one (eqb (n % 4) 1) refl
  where
    three : (b : Bool) → eqb (n % 4) 3 ≡ b → (n % 4 ≡ 1 → ⊥) → (n % 4 ≡ 2 → ⊥) → pool_number (cond b io buses) ≡ n % 4
    three true e f g = sym (eqb-true (n % 4) 3 e)
    three false e f g = omega (arith, f, g, eqb-false (n % 4) 3 e)

    two : (b : Bool) → eqb (n % 4) 2 ≡ b → (n % 4 ≡ 1 → ⊥) → pool_number (cond b high (cond (eqb (n % 4) 3) io buses)) ≡ n % 4
    two true e f = sym (eqb-true (n % 4) 2 e)
    two false e f = three (eqb (n % 4) 3) refl f (eqb-false (n % 4) 2 e)

    one : (b : Bool) → eqb (n % 4) 1 ≡ b → pool_number (cond b low (cond (eqb (n % 4) 2) high (cond (eqb (n % 4) 3) io buses))) ≡ n % 4
    one true e = sym (eqb-true (n % 4) 1 e)
    one false e = two (eqb (n % 4) 2) refl (eqb-false (n % 4) 1 e)

-- low and high memory are one space
space_of_number : (q : Pool) → space_number q ≡ (pool_number q + 1) / 2
space_of_number buses = refl
space_of_number low = refl
space_of_number high = refl
space_of_number io = refl

-- of an item
pub space_of_item : (n : ℕ) → (n % 4 + 1) / 2 ≡ space_number (pool_with n)
space_of_item n = sym (space_of_number (pool_with n) ∙ ap (λ (k : ℕ). (k + 1) / 2) (number_of_pool n))

pub pool_with_number : (q : pools.Pool) → pool_with (pool_number (pool_of q)) ≡ pool_of q
unfolding pool_with
pool_with_number Low = refl
pool_with_number High = refl
pool_with_number Io = refl

-- ## One range more

ranges_snoc : (xs : List ℕ) (i n : ℕ) → ranges_from xs i (suc n) ≡ ranges_from xs i n ++ (range_of (item_at xs (i + n)) ∷ [])
unfolding ranges_from
ranges_snoc xs i zero = let z : i + 0 ≡ i = omega arith in rw z
ranges_snoc xs i (suc n) =
    let s : i + 1 + n ≡ i + suc n = omega arith in
    ap (range_of (item_at xs i) ∷◌) (rw (← s) (ranges_snoc xs (i + 1) n))

-- ranges are told by their own numbers
ranges_agree : (xs ys : List ℕ) (i n : ℕ) → ((j : ℕ) → j < 3 * (i + n) → get_or ys j 0 ≡ get_or xs j 0) → ranges_from ys i n ≡ ranges_from xs i n
unfolding ranges_from
ranges_agree xs ys i zero f = refl
ranges_agree xs ys i (suc n) f =
    rw (f (3 * i) (omega arith), f (3 * i + 1) (omega arith), f (3 * i + 2) (omega arith))
    (ap (range_of (item_at xs i) ∷◌) (ranges_agree xs ys (i + 1) n (λ j h. f j (omega arith))))

-- the three numbers of range n stored
abbrev pub stored : List ℕ → ℕ → Item → List ℕ
stored xs n x = set (set (set xs (3 * n) x.pool) (3 * n + 1) x.first) (3 * n + 2) x.last

module _ (xs : List ℕ) (n : ℕ) (x : Item) (fits : 3 * n + 3 ≤ length xs) where
  abbrev one : List ℕ
  one = set xs (3 * n) x.pool

  abbrev two : List ℕ
  two = set one (3 * n + 1) x.first

  stored_before : (j : ℕ) → j < 3 * n → get_or (stored xs n x) j 0 ≡ get_or xs j 0
  stored_before j h =
      get_or-set_other two (3 * n + 2) j x.last 0 (λ e. omega arith)
      ∙ get_or-set_other one (3 * n + 1) j x.first 0 (λ e. omega arith)
      ∙ get_or-set_other xs (3 * n) j x.pool 0 (λ e. omega arith)

  pub stored_is : item_at (stored xs n x) n ≡ x
  stored_is = λ i. record { pool = pool_is i; first = first_is i; last = last_is i }
    where
      pool_is : get_or (stored xs n x) (3 * n) 0 ≡ x.pool
      pool_is =
          get_or-set_other two (3 * n + 2) (3 * n) x.last 0 (λ e. omega arith)
          ∙ get_or-set_other one (3 * n + 1) (3 * n) x.first 0 (λ e. omega arith)
          ∙ get_or-set_same xs (3 * n) x.pool 0 (omega arith)

      first_is : get_or (stored xs n x) (3 * n + 1) 0 ≡ x.first
      first_is =
          get_or-set_other two (3 * n + 2) (3 * n + 1) x.last 0 (λ e. omega arith)
          ∙ get_or-set_same one (3 * n + 1) x.first 0 (omega (arith, length-set xs (3 * n) x.pool))

      last_is : get_or (stored xs n x) (3 * n + 2) 0 ≡ x.last
      last_is =
          get_or-set_same two (3 * n + 2) x.last 0
          (omega (arith, length-set one (3 * n + 1) x.first, length-set xs (3 * n) x.pool))

  pub ranges_stored : ranges_in (n + 1) (stored xs n x) ≡ ranges_in n xs ++ (range_of x ∷ [])
  ranges_stored =
      let z : 0 + n ≡ n = omega arith in
      let last : item_at (stored xs n x) (0 + n) ≡ x = rw z stored_is in
      ap (ranges_from (stored xs n x) 0) (add-one n)
      ∙ ranges_snoc (stored xs n x) 0 n
      ∙ ap (λ (y : Item). ranges_in n (stored xs n x) ++ (range_of y ∷ [])) last
      ∙ ap (λ (rs : List Range). rs ++ (range_of x ∷ [])) (ranges_agree xs (stored xs n x) 0 n (λ j h. stored_before j (omega arith)))

-- three pieces, one after the other
three_added : (old one two three x y z : List Range) → one ≡ old ++ x → two ≡ one ++ y → three ≡ two ++ z
    → three ≡ old ++ ((x ++ y) ++ z)
three_added old one two three x y z e f g = rw (g, f, e, append_assoc old x y) (append_assoc old (x ++ y) z)

-- none yet
pub ranges_nil : (xs : List ℕ) → ranges_in 0 xs ≡ []
unfolding ranges_from
ranges_nil xs = refl

-- ## A range on a condition, in the words of the code: from first to last, p is its pool's number

pub range_of_item : (q : pools.Pool) (p first last : ℕ) → p ≡ pool_number (pool_of q)
    → range_of (record { pool = p; first = first; last = last }) ≡ open_item q first last
range_of_item q p first last e = rw (e, pool_with_number q)

module _ (q : pools.Pool) (p first last n : ℕ) (xs : List ℕ) where
  pub open_none : last < first → ranges_in n xs ≡ ranges_in n xs ++ one_if (leb first last) (open_item q first last)
  open_none h = rw (lt-leb first last h) (sym (append-nil (ranges_in n xs)))

  pub open_put : (new : List Range) → p ≡ pool_number (pool_of q)
      → new ≡ ranges_in n xs ++ (range_of (record { pool = p; first = first; last = last }) ∷ []) → first ≤ last
      → new ≡ ranges_in n xs ++ one_if (leb first last) (open_item q first last)
  open_put new e put h = rw (le-leb first last h) (put ∙ ap (λ (r : Range). ranges_in n xs ++ (r ∷ [])) (range_of_item q p first last e))

-- ## Windows and pools, in the words of the code

-- w is the window's registers
pub window_put : (q : pools.Pool) (p : List ℕ) (w : Window) (first last n : ℕ) (xs : List ℕ) (new : List Range) → w ≡ window_of q p
    → first ≡ windows.start q w → last + 1 ≡ windows.stop q w → new ≡ ranges_in n xs ++ one_if (leb first last) (open_item q first last)
    → new ≡ ranges_in n xs ++ open_range q (window_of q p)
window_put q p w first last n xs new is e f put =
    let opens : ltb first (windows.stop q w) ≡ leb first last = ltb_stop first last (windows.stop q w) f in
    let stops : suc last ≡ windows.stop q w = sym (add-one last) ∙ f in
    put ∙ ap (ranges_in n xs ++◌) (rw (← is, ← e, opens, stops))

-- low, high and I/O
pub windows_put : (p : List ℕ) (n : ℕ) (xs : List ℕ) (one two three : List Range) → is_bridge (header_of p) ≡ true
    → one ≡ ranges_in n xs ++ open_range Low (window_of Low p) → two ≡ one ++ open_range High (window_of High p)
    → three ≡ two ++ open_range Io (window_of Io p) → three ≡ ranges_in n xs ++ windows_in (entry_of p)
unfolding entry_of
windows_put p n xs one two three b e f g = rw b (three_added (ranges_in n xs) one two three _ _ _ e f g)

-- an end function has none
pub windows_none : (p : List ℕ) → is_bridge (header_of p) ≡ false → windows_in (entry_of p) ≡ []
unfolding entry_of
windows_none p e = rw (e, closed_shut Low, closed_shut High, closed_shut Io)

abbrev pub pool_put : pools.Pool → Span → List Range
pool_put q x = one_if (leb x.base x.last) (open_item q x.base x.last)

pub pools_put : (h : Host) (xs : List ℕ) (one two three : List Range) → one ≡ ranges_in 0 xs ++ pool_put Low h.low
    → two ≡ one ++ pool_put High h.high → three ≡ two ++ pool_put Io h.io → three ≡ pools_in h
unfolding ranges_from
pools_put h xs one two three e f g = three_added [] one two three _ _ _ e f g

-- ## The BARs before the windows

ranges_are : (p : List ℕ) (b : Bool) → is_bridge (header_of p) ≡ b → ranges_of (entry_of p) ≡ bars_in p ++ cond b (windows_in (entry_of p)) []
unfolding ranges_of entry_of
ranges_are p b e = ap (λ (t : Bool). bars_in p ++ cond t (windows_in (entry_of p)) []) e

module _ (p : List ℕ) (bars : List Range) (e : bars ≡ bars_in p) where
  pub ranges_bridge : (all : List Range) → is_bridge (header_of p) ≡ true → all ≡ bars ++ windows_in (entry_of p) → all ≡ ranges_of (entry_of p)
  ranges_bridge all b put = put ∙ ap (λ (rs : List Range). rs ++ windows_in (entry_of p)) e ∙ sym (ranges_are p true b)

  pub ranges_end : is_bridge (header_of p) ≡ false → bars ≡ ranges_of (entry_of p)
  ranges_end b = e ∙ sym (ranges_are p false b ∙ append-nil (bars_in p))
