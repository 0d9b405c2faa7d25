-- Document 02, E4, is proved: lines, pieces, calls and the program. Assumes nothing.
use Rattle.std.specs.Prelude.{◌≡◌, Bool, true, false, ℕ, ◌+◌, ◌-◌, ◌*◌, ◌≤◌, ◌<◌, min, length, drop, set, eqb}
use Rattle.std.proofs.Math.Path.{refl, ap₂}
use Rattle.std.proofs.Common.{sym, ap, subst, ◌∙◌, arith, ne_eqb, le-leb}
use Rattle.std.proofs.Math.Bool.{cond}
use mathlib.Core.List.{List, [], ◌∷◌, ◌++◌, flatten, append-nil}
use Rattle.std.proofs.lemmas.Bool.{lt-leb}
use Rattle.text.specs.Text.{ascii}
use Rattle.records.specs.Records.{parts_of}
use Rattle.records.specs.declared.frame.Stage.{Stage}
use Rattle.records.specs.declared.frame.Stage.TheVariants.{Start, Other, Between, Length, Inside}
use Rattle.records.specs.declared.frame.Event.TheVariants.{Version, Foreign}
use Rattle.records.specs.Frame.{version_of, event_of, inside_of, stage_after, stage_of, heard_of}
use Rattle.route.specs.Route.{route_of}
use Rattle.trace.specs.declared.Trace.{Trace}
use Rattle.trace.specs.Annotated.{number_after, version_line, cut_line, record_lines, annotated}
use Rattle.trace.specs.declared.Emits.TheVariants.{Nothing, Line}
use Rattle.trace.specs.Trace.{no_bytes, fresh, between, Account, account_of, trace_at, line_at, number_by, kept_after, head_after, heard_by}
use Rattle.trace.specs.Trace.{state_of, lines_of, end_line}
use Rattle.trace.proofs.TraceLaws.{state_all, state_all_lem, pieces_told}
use Rattle.trace.specs.Feed.{text_put, fed_of, ended_of}
use Rattle.trace.proofs.FeedLaws.{short_front, Call, called_state, called_lines}
use Rattle.trace_label.specs.Label.{label_with}
use Rattle.trace_line.specs.Line.{line_with, line_over}
use Rattle.trace_line.specs.LineLaws.{line_front}
use Rattle.requests.specs.Trace.{Labels, lines_after, told, Annotates, Feeds, Ends, Calls, Prints, TraceAnnotated}
use Rattle.stream_trace.specs.ProgramLaws.{program_no_length, program_long, program_short, program_pieces}

-- ## One line

labels : (sheet : List ℕ) (n : ℕ) (header : List ℕ) → Labels sheet n header
unfolding line_over line_with label_with route_of
labels sheet n header =
    record {
      owner_line = λ p d r e. rw (e, r);
      refused_line = λ p number r e. rw (e, r);
      header_line = λ number r. rw r;
      every_line = λ p q functions r e. rw (e, r);
      port_line = λ p q r e. rw (e, r);
      by_its_front = line_front sheet n header;
    }

first : number_after 0 ≡ 1
unfolding number_after
first = refl

next : (n : ℕ) → n < 18446744073709551615 → number_after n ≡ 1 + n
unfolding number_after
next n h = omega arith

wraps : number_after 18446744073709551615 ≡ 0
unfolding number_after
wraps = refl

-- ## Between records nothing is kept

abbrev Empty : Account → Type 0
Empty a = (a.kept ≡ 0) × (a.head ≡ no_bytes)

-- nor before the first, nor while a length is read
abbrev Clear : Stage → Account → Type 0
Clear Start a = Empty a
Clear Other a = Unit {0}
Clear Between a = Empty a
Clear (Length high) a = Empty a
Clear (Inside left) a = Unit {0}

record_clear : (left n kept : ℕ) (head : List ℕ)
    → Clear (inside_of left) (record { number = n; kept = kept_after (line_at left) kept; head = head_after (line_at left) head })
unfolding line_at inside_of
record_clear left n kept head = go (eqb left 0)
  where
    go : (b : Bool)
        → Clear (cond b Between (Inside left))
        (record { number = n; kept = kept_after (cond b Line Nothing) kept; head = head_after (cond b Line Nothing) head })
    go true = (refl, refl)
    go false = tt

byte_clear : (g : Stage) (a : Account) (b : ℕ) → Clear g a → Clear (stage_after (event_of g b)) (heard_by a (event_of g b))
unfolding version_of
byte_clear Start a b c = go (eqb b 1)
  where
    go : (t : Bool) → Clear (stage_after (cond t Version Foreign)) (heard_by a (cond t Version Foreign))
    go true = c
    go false = tt
byte_clear Other a b c = tt
byte_clear Between a b c = c
byte_clear (Length high) a b c =
    record_clear (high * 256 + b) (number_by (line_at (high * 256 + b)) a.number) 0 a.head
byte_clear (Inside left) a b c =
    record_clear (left - 1) (number_by (line_at (left - 1)) a.number) (min (a.kept + 1) (length a.head)) (set a.head a.kept b)

heard_clear : (g : Stage) (a : Account) (s : List ℕ) → Clear g a → Clear (stage_of g s) (heard_of heard_by g a s)
unfolding stage_of heard_of
heard_clear g a [] c = c
heard_clear g a (b ∷ s) c = heard_clear (stage_after (event_of g b)) (heard_by a (event_of g b)) s (byte_clear g a b c)

clear_between : (g : Stage) (a : Account) → Clear g a → g ≡ Between → trace_at g a ≡ between a.number
clear_between g a c e = go (subst (λ (g : Stage). Clear g a) e c)
  where
    go : Empty a → trace_at g a ≡ between a.number
    go (none, zeros) = λ i. record { stage = e i; number = a.number; kept = none i; head = zeros i }

whole_clear : (s : List ℕ) → (state_of fresh s).stage ≡ Between → state_of fresh s ≡ between (state_of fresh s).number
unfolding state_of
whole_clear s =
    clear_between (stage_of Start s) (heard_of heard_by Start (account_of fresh) s) (heard_clear Start (account_of fresh) s (refl, refl))

nothing_kept : (pieces : List (List ℕ)) → (state_all fresh pieces).stage ≡ Between
    → state_all fresh pieces ≡ between (state_all fresh pieces).number
nothing_kept pieces =
    subst (λ (t : Trace). t.stage ≡ Between → t ≡ between t.number) (sym (state_all_lem fresh pieces)) (whole_clear (flatten pieces))

-- ## A trace

-- labelled by their fronts, records have the lines of whole records
lines_agree : (sheet : List ℕ) (n : ℕ) (headers : List (List ℕ)) → record_lines (line_over sheet) n headers ≡ lines_after sheet n headers
unfolding record_lines lines_after
lines_agree sheet n [] = refl
lines_agree sheet n (header ∷ headers) =
    ap₂ ◌++◌ (line_front sheet (number_after n) header) (lines_agree sheet (number_after n) headers)

module _ (sheet : List ℕ) where
  framed : (s : List ℕ) (w : Bool) → (parts_of s).whole ≡ w
      → annotated (line_over sheet) (1 ∷ s) ≡ lines_after sheet 0 (parts_of s).parts ++ cond w [] cut_line
  unfolding annotated
  framed s w e = ap₂ (λ (x : List ℕ) (b : Bool). x ++ cond b [] cut_line) (lines_agree sheet 0 (parts_of s).parts) e

  foreign : (v : ℕ) (s : List ℕ) → ¬ (v ≡ 1) → annotated (line_over sheet) (v ∷ s) ≡ version_line
  unfolding annotated
  foreign v s h = rw (ne_eqb v 1 h)

  empty : annotated (line_over sheet) [] ≡ ascii "refused 20\n"
  unfolding annotated
  empty = refl

  annotates : (pieces : List (List ℕ)) → Annotates sheet pieces
  annotates pieces =
      let all : (s : List ℕ) → flatten pieces ≡ s → told (line_over sheet) pieces ≡ annotated (line_over sheet) s =
      λ s e. pieces_told (line_over sheet) pieces ∙ ap (annotated (line_over sheet)) e in
      record {
        whole_trace = λ s e w. all (1 ∷ s) e ∙ framed s true w ∙ append-nil (lines_after sheet 0 (parts_of s).parts);
        cut_trace = λ s e w. all (1 ∷ s) e ∙ framed s false w;
        no_trace = λ e. all [] e ∙ empty;
        other_version = λ v s e h. all (v ∷ s) e ∙ foreign v s h;
        end_state = state_all_lem fresh pieces;
        nothing_kept = nothing_kept pieces;
      }

  at_once : (v : ℕ) → ¬ (v ≡ 1) → lines_of (line_over sheet) fresh (v ∷ []) ≡ ascii "refused 21\n"
  unfolding lines_of heard_of version_of
  at_once v h = rw (ne_eqb v 1 h)

-- ## One call

put_whole : (text out : List ℕ) → length text ≤ length out → text_put text out ≡ text ++ drop (length text) out
unfolding text_put
put_whole text out h = rw (le-leb (length text) (length out) h)

feeds : (line : ℕ → List ℕ → List ℕ) (t : Trace) (piece out : List ℕ) → Feeds line t piece out
unfolding fed_of
feeds line t piece out =
    let lines = lines_of line t piece in
    record {
      short_room_lem = λ h. (rw (lt-leb (length lines) (length out) h), sym (short_front lines out h));
      enough_room = λ h. (rw (le-leb (length lines) (length out) h), put_whole lines out h);
    }

ends : (t : Trace) (out : List ℕ) → Ends t out
unfolding ended_of
ends t out =
    record {
      short_end = λ h. (rw (lt-leb (length (end_line t)) (length out) h), sym (short_front (end_line t) out h));
      enough_end = λ h. (rw (le-leb (length (end_line t)) (length out) h), put_whole (end_line t) out h);
    }

calls : (line : ℕ → List ℕ → List ℕ) (cs : List Call) → Calls line cs
calls line cs =
    record {
      lines_of_taken = ap₂ (λ (x : List ℕ) (t : Trace). x ++ end_line t) (called_lines line fresh cs) (called_state line fresh cs);
      state_of_taken = called_state line fresh cs;
    }

-- ## The program

prints : (a b : ℕ) → Prints a b
prints a b =
    record {
      pieces_printed = λ sheet pieces l h. sym (program_pieces line_over a b sheet pieces l (omega (arith, l, h)));
      long_sheet = program_long line_over a b;
      short_sheet = program_short line_over a b;
    }

pub trace_annotated : TraceAnnotated
trace_annotated =
    record {
      labels = labels;
      first_number = first;
      next_number = next;
      number_wraps = wraps;
      annotates = annotates;
      at_first_byte = at_once;
      feeds = feeds;
      ends = ends;
      calls = calls;
      prints = prints;
      no_length = program_no_length line_over;
    }
