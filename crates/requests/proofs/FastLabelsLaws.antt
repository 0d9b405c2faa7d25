-- Document 02's E8 holds of the definitions, and its sentences hold by the second verdict too. Assumes nothing.
use Rattle.std.specs.Prelude.{◌≡◌, refl, ◌↔◌, Bool, true, false, cond, List, ℕ, ◌≤◌, ◌<◌, length, ltb}
use Rattle.std.proofs.Common.{sym, ap, ◌∙◌, arith, eq-eqb, ltb-true, lt-ltb, le-ltb}
use Rattle.endian.specs.Endian.{Bytes}
use Rattle.sheet.specs.Sheet.{entries_of}
use Rattle.audit_rule.specs.Audit.{audit_number, sound_number}
use Rattle.audit_rule.specs.Accepted.{Accepted, OneOwner}
use Rattle.audit_rule.proofs.AcceptedLaws.{one_owner_of_accepted}
use Rattle.audit_rule.proofs.AuditLaws.{audit_iff, sound_iff}
use Rattle.index_build.specs.Build.{from11, number_after, build_number, sound_build_number, left_by, index_after, sound_index_after}
use Rattle.index_build.proofs.BuildLaws.{verdict_refused, refused_stays}
use Rattle.index_build.proofs.BuiltLaws.{zero_elim, Fitting, search_left, listed_left, length_left, past_left}
use Rattle.trace.specs.declared.Trace.{Trace}
use Rattle.trace.specs.Feed.{fed_of, fed_put}
use Rattle.trace_line.specs.declared.Finder.TheVariants.{Index}
use Rattle.trace_line.specs.Line.{line_over}
use Rattle.trace_line.specs.Finder.{line_by}
use Rattle.trace_line.specs.LineLaws.{lines_agree}
use Rattle.requests.specs.Trace.{told}
use Rattle.requests.specs.FastLabels.{index_bytes, FedAlike, LabelsBy, FastLabels}

-- By any verdict whose 0 says of a sheet that it has one owner for every address
module _ (verdict : List ℕ → List ℕ → ℕ) (Yes : List ℕ → List ℕ → Type 0)
    (yes_iff : (host s : List ℕ) → Bytes s → (verdict host s ≡ 0) ↔ Yes host s) (owned : (host s : List ℕ) → Yes host s → OneOwner host s) where
  abbrev number_by : List ℕ → List ℕ → ℕ → ℕ
  number_by host s room = number_after (verdict host s) s room

  abbrev after : List ℕ → List ℕ → List ℕ → List ℕ
  after host s room = left_by (number_after (verdict host s) s (length room)) host s room

  module _ (host s room : List ℕ) where
    abbrev number : ℕ
    number = number_after (verdict host s) s (length room)

    abbrev index : List ℕ
    index = left_by (number_after (verdict host s) s (length room)) host s room

    -- past the verdict only the room is asked for
    number_is : verdict host s ≡ 0 → number ≡ cond (ltb (length room) (index_bytes s)) 11 0
    unfolding from11
    number_is zero = rw (eq-eqb (verdict host s) 0 zero)

    fitting : Bytes s → number ≡ 0 → Fitting host s room
    fitting bytes done =
        let z = zero_elim (verdict host s) s (length room) done in
        (owned host s ((yes_iff host s bytes).0 z.0), z.1)

    built_exactly : Bytes s → (number ≡ 0) ↔ (Yes host s × (index_bytes s ≤ length room))
    built_exactly bytes = (forward, backward)
      where
        forward : number ≡ 0 → Yes host s × (index_bytes s ≤ length room)
        forward done = let z = zero_elim (verdict host s) s (length room) done in ((yes_iff host s bytes).0 z.0, z.1)

        backward : Yes host s × (index_bytes s ≤ length room) → number ≡ 0
        backward (yes_of, enough) =
            number_is ((yes_iff host s bytes).1 yes_of) ∙ rw (le-ltb (length room) (index_bytes s) enough)

    short_exactly : verdict host s ≡ 0 → (number ≡ 11) ↔ (length room < index_bytes s)
    short_exactly zero = (forward, λ short. number_is zero ∙ rw (lt-ltb (length room) (index_bytes s) short))
      where
        go : (t : Bool) → ltb (length room) (index_bytes s) ≡ t → ◌≡◌ {A = ℕ} (cond t 11 0) 11 → length room < index_bytes s
        go true e z = ltb-true (length room) (index_bytes s) e
        go false e z = absurd (omega (arith, z))

        forward : number ≡ 11 → length room < index_bytes s
        forward eleven = go (ltb (length room) (index_bytes s)) refl (sym (number_is zero) ∙ eleven)

    short_stays : number ≡ 11 → index ≡ room
    short_stays eleven = ap (λ (n : ℕ). left_by n host s room) eleven

    -- every line by the index is the sheet's
    same_lines : Bytes host → Bytes s → number ≡ 0 → line_by Index index ≡ line_over s
    same_lines host_bytes_lem bytes done =
        lines_agree index s (search_left host s room host_bytes_lem bytes number (fitting bytes) done)

    pieces_equal : Bytes host → Bytes s → number ≡ 0 → (t : Trace) (piece out : List ℕ) → FedAlike index s t piece out
    pieces_equal host_bytes_lem bytes done t piece out =
        let same = same_lines host_bytes_lem bytes done in (
          ap (λ (line : ℕ → List ℕ → List ℕ). fed_of line t piece (length out)) same,
          ap (λ (line : ℕ → List ℕ → List ℕ). fed_put line t piece out) same,
        )

  labels_by : LabelsBy verdict Yes number_by after
  labels_by =
      record {
        built_exactly = built_exactly;
        answers_equal = λ host s room host_bytes_lem bytes done header.
            search_left host s room host_bytes_lem bytes (number host s room) (fitting host s room bytes) done header;
        lists_equal = λ host s room host_bytes_lem bytes done header list.
            listed_left host s room host_bytes_lem bytes (number host s room) (fitting host s room bytes) done header list;
        traces_equal = λ host s room host_bytes_lem bytes done pieces.
            ap (λ (line : ℕ → List ℕ → List ℕ). told line pieces) (same_lines host s room host_bytes_lem bytes done);
        pieces_equal = pieces_equal;
        refused_by_verdict = λ host s room refused.
            (verdict_refused s room (verdict host s) refused, refused_stays host s room (verdict host s) refused);
        short_exactly = short_exactly;
        short_stays = short_stays;
        past_stays = λ host s room host_bytes_lem bytes. (
          length_left host s room host_bytes_lem bytes (number host s room) (fitting host s room bytes),
          λ k past. past_left host s room host_bytes_lem bytes (number host s room) (fitting host s room bytes) k 0 past,
        );
      }

pub fast_labels : FastLabels
unfolding build_number index_after
fast_labels = labels_by audit_number Accepted audit_iff one_owner_of_accepted

-- the same by the second verdict
pub labels_by_sound : LabelsBy sound_number OneOwner sound_build_number sound_index_after
unfolding sound_build_number sound_index_after
labels_by_sound = labels_by sound_number OneOwner sound_iff (λ host s a. a)
