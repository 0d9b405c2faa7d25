-- The pass that fills the table, in the words of the code: what the records read so far and those that are left say of a bus, joined, is
-- what all say. Assumes nothing.
use Rattle.std.specs.Prelude.{◌≡◌, refl, Bool, true, false, cond, ◌&&◌, List, ℕ, ◌+◌, ◌≤◌, ◌<◌, length, get_or, set, replicate, eqb}
use Rattle.std.proofs.Math.Path.{sym}
use Rattle.std.proofs.Common.{ap, ◌∙◌, arith, length-set, get_or-set_same, get_or-set_other, eqb-true}
use Rattle.std.proofs.lemmas.List.{length-replicate, get_or-replicate}
use Rattle.std.proofs.lemmas.Bool.{eqb-false}
use Rattle.sheet_record.specs.Entry.{Entry, header_of, is_bridge, secondary_of, entry_of, bridges}
use Rattle.sheet.specs.Sheet.{Framed, entries_from, entries_of, part_at, record_at}
use Rattle.sheet_above.specs.Parents.{leads_to, joined, leader_from, leader_of}
use Rattle.sheet_above.specs.ParentsLaws.{joined_assoc, joined_none, leader_left_lem, leader_past}
use Rattle.sheet_above.specs.Table.{buses, Leads, with_record}

-- records numbered from k + 1 on are left
pub record LeadsFrom (s : List ℕ) (k : ℕ) (table : List ℕ) : Type 0 where
  pub size : length table ≡ buses
  pub leader : (bus : ℕ) → bus < buses
      → joined (get_or table bus 0) (leader_from (k + 1) (entries_from s (record_at k)) bus) ≡ leader_of (entries_of s) bus

pub leads_start : (s table : List ℕ) → table ≡ replicate buses 0 → LeadsFrom s 0 table
leads_start s table e =
    record {
      size = ap length e ∙ length-replicate {A = ℕ} buses 0;
      leader = λ bus h. ap (λ (t : List ℕ). joined (get_or t bus 0) (leader_of (entries_of s) bus)) e
          ∙ ap (λ (n : ℕ). joined n (leader_of (entries_of s) bus)) (get_or-replicate buses bus 0 0 h);
    }

-- a bus's entry, after a record
entry_after : (number : ℕ) (e : Entry) (rest bus : ℕ) (table : List ℕ) → bus < length table
    → joined (get_or (with_record number e table) bus 0) rest ≡ joined (get_or table bus 0) (joined (cond (leads_to bus e) number 0) rest)
unfolding with_record
entry_after number e rest bus table h = go (bridges e) (eqb e.secondary bus) refl
  where
    old : ℕ
    old = get_or table e.secondary 0

    go : (b t : Bool) → eqb e.secondary bus ≡ t
        → joined (get_or (cond b (set table e.secondary (joined old number)) table) bus 0) rest
        ≡ joined (get_or table bus 0) (joined (cond (b && t) number 0) rest)
    go false t q = refl
    go true true q =
        let same : e.secondary ≡ bus = eqb-true e.secondary bus q in
        rw (← same)
        (ap (λ (n : ℕ). joined n rest) (get_or-set_same table e.secondary (joined old number) 0 (omega (arith, h, same)))
        ∙ joined_assoc old number rest)
    go true false q =
        ap (λ (n : ℕ). joined n rest)
        (get_or-set_other table e.secondary bus (joined old number) 0 (λ d. eqb-false e.secondary bus q (sym d)))

length_with : (number : ℕ) (e : Entry) (table : List ℕ) → length (with_record number e table) ≡ length table
unfolding with_record
length_with number e table = go (bridges e)
  where
    go : (b : Bool) → length (cond b (set table e.secondary (joined (get_or table e.secondary 0) number)) table) ≡ length table
    go true = length-set table e.secondary (joined (get_or table e.secondary 0) number)
    go false = refl

-- ## One record, in the words of the code

module _ (p : List ℕ) (number : ℕ) (table : List ℕ) (bridge : Bool) (is : bridge ≡ is_bridge (header_of p)) where
  pub with_other : bridge ≡ false → table ≡ with_record number (entry_of p) table
  unfolding with_record entry_of
  with_other e = rw (sym is ∙ e)

  pub with_bridge : bridge ≡ true → (bus : ℕ) → bus ≡ secondary_of p → (entry : ℕ) → entry ≡ joined (get_or table bus 0) number
      → set table bus entry ≡ with_record number (entry_of p) table
  unfolding with_record entry_of
  with_bridge e bus b entry q = rw (q, b, sym is ∙ e)

-- ## The pass

module _ (s : List ℕ) (f : Framed 1 s) (n k : ℕ) (count : n ≡ length (entries_of s)) (table : List ℕ) (r : LeadsFrom s k table) where
  pub leads_more : k < n → (p : List ℕ) → p ≡ part_at s k → (t : List ℕ) → t ≡ with_record (k + 1) (entry_of p) table → LeadsFrom s (k + 1) t
  leads_more h p is t e =
      rw (e, is)
      (record {
        size = length_with (k + 1) (entry_of (part_at s k)) table ∙ r.size;
        leader = λ bus b.
            entry_after (k + 1) (entry_of (part_at s k)) _ bus table (omega (arith, b, r.size))
            ∙ ap (joined (get_or table bus 0)) (sym (leader_left_lem s f n k count h bus))
            ∙ r.leader bus b;
      })

  pub leads_end : n ≤ k → Leads (entries_of s) table
  leads_end h =
      record {
        size = r.size;
        leader = λ bus b.
            sym (joined_none (get_or table bus 0))
            ∙ ap (joined (get_or table bus 0)) (sym (leader_past s f n k count h bus))
            ∙ r.leader bus b;
      }
