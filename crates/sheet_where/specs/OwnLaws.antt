-- One record under each of the sheet's own checks, in the words of the code. Assumes nothing.
use Rattle.std.specs.Prelude.{◌≡◌, Bool, not, List, ℕ}
use Rattle.std.proofs.Math.Path.{refl, sym, ap}
use Rattle.std.proofs.Common.{◌∙◌}
use Rattle.std.proofs.Math.Bool.{true, false, cond}
use borrow.Author.Tests.{ne_eqb}
use Rattle.board_record.specs.declared.Host.{Host}
use Rattle.pools.specs.declared.Pool.TheVariants.{Low, High, Io}
use Rattle.window.specs.declared.Window.{Window}
use Rattle.window.specs.Window.{is_nibbled}
use Rattle.sheet_record.specs.Entry.{Entry, entry_of, header_of, is_bridge, window_of, bridges}
use Rattle.sheet.specs.declared.Rule as rules
use Rattle.sheet.specs.Sheet.{breaks, entries_of, part_at}
use Rattle.finding.specs.Places.{Spot, right, wrong_at, bus_registers, function_id, nobody, wrong_if}
use Rattle.finding.specs.First.{first}
use Rattle.audit_finding.specs.declared.Check.TheVariants.{HeaderType, Buses, Ids, ReadBacks, Nibbles}
use Rattle.audit_finding.specs.declared.Relation.TheVariants.{SameId}
use Rattle.audit_finding.specs.Placed.{numbered}
use Rattle.audit_finding.specs.Fails.{least_met, fails}
use Rattle.audit_finding.specs.Where.{first_wrong, read_back_marks, nibble_marks, place_in, other_of}
use Rattle.audit_finding.specs.WhereLaws.{is_wrong, read_backs_marked, nibbles_marked}
use Rattle.audit_finding.specs.Spots.{spot_at, spot_in, spot_alone, record_of}
use Rattle.sheet_where.specs.Own.{nibble_spot}

nibbles_none : (e : Entry) → bridges e ≡ false → breaks rules.TheVariants.Nibbles e ≡ false
unfolding breaks
nibbles_none e b = rw b

-- p is the record's part
module _ (h : Host) (s : List ℕ) (k : ℕ) (p : List ℕ) (is : p ≡ part_at s k) where
  abbrev es : List Entry
  es = entries_of s

  pub type_spot : (b : Bool) (x : Spot) → b ≡ breaks rules.TheVariants.HeaderType (entry_of p) → x ≡ wrong_if b function_id
      → x ≡ spot_at HeaderType h es (record_of s k)
  unfolding spot_at fails place_in other_of
  type_spot b x e f = f ∙ rw (e, is)

  pub buses_spot : (b : Bool) (x : Spot) → b ≡ breaks rules.TheVariants.Buses (entry_of p) → x ≡ wrong_if b bus_registers
      → x ≡ spot_at Buses h es (record_of s k)
  unfolding spot_at fails place_in other_of
  buses_spot b x e f = f ∙ rw (e, is)

  -- number is that of the least record with the same ID
  module _ (number : ℕ) (met : number ≡ least_met SameId (numbered es) (record_of s k)) where
    pub id_right : number ≡ 0 → right ≡ spot_at Ids h es (record_of s k)
    unfolding spot_at fails place_in other_of
    id_right z = rw (sym met ∙ z)

    pub id_wrong : (number ≡ 0 → ⊥) → wrong_at function_id (record { number = number; place = function_id })
        ≡ spot_at Ids h es (record_of s k)
    unfolding spot_at fails place_in other_of
    id_wrong d = rw (← met, ne_eqb number 0 d)

  pub read_back_spot : (x : Spot) → x ≡ spot_in (read_back_marks (entry_of p)) → x ≡ spot_at ReadBacks h es (record_of s k)
  unfolding spot_at fails place_in other_of breaks
  read_back_spot x e =
      let ms = read_back_marks (entry_of p) in
      e
      ∙ spot_alone is_wrong (λ m. m.place) ms
      ∙ ap (λ (b : Bool). cond b (wrong_at (first_wrong ms) nobody) right) (read_backs_marked (entry_of p))
      ∙ rw is

  pub nibble_spot_lem : (x : Spot) → x ≡ nibble_spot (entry_of p) → x ≡ spot_at Nibbles h es (record_of s k)
  unfolding spot_at fails place_in other_of
  nibble_spot_lem x e = e ∙ go (bridges (entry_of p)) refl ∙ rw is
    where
      go : (b : Bool) → bridges (entry_of p) ≡ b
          → cond b (spot_in (nibble_marks (entry_of p))) right
          ≡ cond (breaks rules.TheVariants.Nibbles (entry_of p)) (wrong_at (first_wrong (nibble_marks (entry_of p))) nobody) right
      go true is_bridge_lem =
          spot_alone is_wrong (λ m. m.place) (nibble_marks (entry_of p))
          ∙ ap (λ (b : Bool). cond b (wrong_at (first_wrong (nibble_marks (entry_of p))) nobody) right) (nibbles_marked
          (entry_of p) is_bridge_lem)
      go false is_none = sym (ap (λ (b : Bool). cond b (wrong_at (first_wrong (nibble_marks (entry_of p))) nobody) right)
          (nibbles_none (entry_of p) is_none))

-- ## 29, window by window: low, high and io are what was read, a, b and c whether their nibbles are right

pub nibbles_end : (p : List ℕ) → is_bridge (header_of p) ≡ false → right ≡ nibble_spot (entry_of p)
unfolding entry_of
nibbles_end p e = rw e

module _ (p : List ℕ) (bridge : is_bridge (header_of p) ≡ true) (low : Window) (is_low : low ≡ window_of Low p) (a : Bool)
    (ra : a ≡ is_nibbled Low low) where
  three : nibble_spot (entry_of p)
      ≡ cond (not (is_nibbled Low (window_of Low p))) (wrong_at 6 nobody)
      (cond (not (is_nibbled High (window_of High p))) (wrong_at 7 nobody) (cond (not (is_nibbled Io (window_of Io p)))
      (wrong_at 8 nobody) right))
  unfolding entry_of first
  three = rw bridge

  low_is : is_nibbled Low (window_of Low p) ≡ a
  low_is = sym (ra ∙ ap (is_nibbled Low) is_low)

  pub nibble_low : a ≡ false → wrong_at 6 nobody ≡ nibble_spot (entry_of p)
  nibble_low w = sym (three ∙ rw (low_is ∙ w))

  module _ (fa : a ≡ true) (high : Window) (is_high : high ≡ window_of High p) (b : Bool) (rb : b ≡ is_nibbled High high) where
    high_is : is_nibbled High (window_of High p) ≡ b
    high_is = sym (rb ∙ ap (is_nibbled High) is_high)

    pub nibble_high : b ≡ false → wrong_at 7 nobody ≡ nibble_spot (entry_of p)
    nibble_high w = sym (three ∙ rw (low_is ∙ fa, high_is ∙ w))

    pub nibble_io : b ≡ true → (io : Window) → io ≡ window_of Io p → (c : Bool) → c ≡ is_nibbled Io io → (x : Spot) → x ≡ wrong_if (not c) 8
        → x ≡ nibble_spot (entry_of p)
    nibble_io fb io is_io_lem c rc x e = e ∙ sym (three ∙ rw (low_is ∙ fa, high_is ∙ fb, sym (rc ∙ ap (is_nibbled Io) is_io_lem)))
