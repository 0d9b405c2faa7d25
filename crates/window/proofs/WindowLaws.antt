-- The laws of window registers, once over the pool: a closed window is shut, an opened one stands for its range, and registers fit their
-- widths. Assumes nothing.
use Rattle.std.specs.Prelude.{◌≡◌, refl, true, false, ℕ, zero, ◌+◌, ◌-◌, ◌*◌, ◌/◌, ◌%◌, ◌≤◌, ◌<◌, leb, ltb}
use Rattle.std.proofs.Common.{sym, ◌∙◌, arith, add-one, eq-eqb, lt-ltb, lit<}
use Rattle.std.proofs.Math.Path.{ap}
use Rattle.std.proofs.Math.Nat.{div-add-mod', div-div-eq-div-mul}
use Rattle.std.proofs.Math.Dec.{leb-suc-suc}
use Rattle.pools.specs.declared.Pool.{Pool}
use Rattle.pools.specs.declared.Pool.TheVariants.{Low, High, Io}
use Rattle.pools.specs.Pools.{granule}
use Rattle.window.specs.declared.Window.{Window}
use Rattle.window.specs.Window.{closed, fields, nibble, uppers, bound, register, upper, opened, address, start, stop, is_open}
use Rattle.window.specs.Window.{is_nibbled, Fits}

-- ## Registers of one address

register_lt : (q : Pool) (a : ℕ) → register q a < fields q * 16
register_lt Low a = omega arith
register_lt High a = omega arith
register_lt Io a = omega arith

register_nibble : (q : Pool) (a : ℕ) → register q a % 16 ≡ nibble q
register_nibble Low a = omega arith
register_nibble High a = omega arith
register_nibble Io a = omega arith

upper_lt : (q : Pool) (a : ℕ) → a < bound q → upper q a < uppers q
upper_lt Low a h = lit< tt
upper_lt High a h = omega arith
upper_lt Io a h = lit< tt

-- the registers of an address stand for the first address of its granule
address_register : (q : Pool) (a : ℕ) → a < bound q → address q (upper q a) (register q a) ≡ a / granule q * granule q
address_register Low a h = omega arith
address_register High a h = omega (arith, div-div-eq-div-mul a 1048576 4096)
address_register Io a h = omega arith

-- what a register adds to its upper word, so that no sum of the code wraps
pub offset_le : (q : Pool) (r : ℕ) → r < 65536 → r / 16 * granule q ≤ 4293918720
offset_le Low r h = omega arith
offset_le High r h = omega arith
offset_le Io r h = omega arith

-- ## Closed windows

pub closed_shut : (q : Pool) → is_open q (closed q) ≡ false
unfolding closed start stop
closed_shut Low = refl
closed_shut High = refl
closed_shut Io = refl

pub closed_nibbled : (q : Pool) → is_nibbled q (closed q) ≡ true
unfolding closed is_nibbled
closed_nibbled Low = refl
closed_nibbled High = refl
closed_nibbled Io = refl

pub closed_fits : (q : Pool) → Fits q (closed q)
unfolding closed
closed_fits Low = record { base = lit< tt; limit = lit< tt; upper_base = lit< tt; upper_limit = lit< tt }
closed_fits High = record { base = lit< tt; limit = lit< tt; upper_base = lit< tt; upper_limit = lit< tt }
closed_fits Io = record { base = lit< tt; limit = lit< tt; upper_base = lit< tt; upper_limit = lit< tt }

-- ## Opened windows

-- what the placing rule gives of an open window's edges
pub record Edges (q : Pool) (a e : ℕ) : Type 0 where
  pub start_multiple : a % granule q ≡ 0
  pub stop_multiple : e % granule q ≡ 0
  pub start_lt : a < e
  pub stop_le : e ≤ bound q

-- the last address below a multiple lies in the granule before it
granule_before : (q : Pool) (e : ℕ) → e % granule q ≡ 0 → zero < e → (e - 1) / granule q * granule q + granule q ≡ e
granule_before Low e m h = omega arith
granule_before High e m h = omega arith
granule_before Io e m h = omega arith

module _ {q : Pool} {a e : ℕ} (d : Edges q a e) where
  pub opened_start : start q (opened q a e) ≡ a
  unfolding start opened
  opened_start = address_register q a (omega arith) ∙ omega (arith, div-add-mod' a (granule q))

  pub opened_stop : stop q (opened q a e) ≡ e
  unfolding stop opened
  opened_stop =
      ap (λ (n : ℕ). n + granule q) (address_register q (e - 1) (omega arith)) ∙ granule_before q e d.stop_multiple (omega arith)

  pub opened_open : is_open q (opened q a e) ≡ true
  opened_open = rw (opened_start, opened_stop) (lt-ltb a e d.start_lt)

  pub opened_fits : Fits q (opened q a e)
  unfolding opened
  opened_fits =
      record {
        base = register_lt q a;
        limit = register_lt q (e - 1);
        upper_base = upper_lt q a (omega arith);
        upper_limit = upper_lt q (e - 1) (omega arith);
      }

-- whatever the edges
pub opened_nibbled : (q : Pool) (a e : ℕ) → is_nibbled q (opened q a e) ≡ true
unfolding opened is_nibbled
opened_nibbled q a e = simp (eq-eqb _ _ (register_nibble q a), eq-eqb _ _ (register_nibble q (e - 1)))

-- ## Any registers

-- the upper words of low and I/O windows are 0
pub uppers_zero : (q : Pool) (w : Window) → Fits q w → uppers q ≡ 1 → (w.upper_base ≡ 0) × (w.upper_limit ≡ 0)
uppers_zero q w f e = (omega arith, omega arith)

-- "at most the last" is "before the stop", with no sum that could wrap
pub ltb_stop : (x last stop : ℕ) → last + 1 ≡ stop → ltb x stop ≡ leb x last
ltb_stop x last stop e = ap (ltb x) (sym e ∙ add-one last) ∙ leb-suc-suc x last
