-- From C: by an index that cartsundial_index or cartsundial_index_sound left, cartsundial_label answers and leaves what
-- cartsundial_annotate does over the sheet. Assumes nothing.
use Rattle.std.specs.Prelude.{ℕ, ◌≡◌, List, length}
use Rattle.std.proofs.Common.{ap}
use Rattle.endian.specs.Endian.{Bytes}
use Rattle.index_build.specs.Build.{build_number, sound_build_number, index_after, sound_index_after}
use Rattle.index_build.proofs.BuiltLaws.{search_is_route, sound_search_is_route}
use Rattle.route.specs.Route.{route_of}
use Rattle.index_search.specs.Search.{search_of}
use Rattle.trace_line.specs.declared.Finder.TheVariants.{Index}
use Rattle.trace_line.specs.Line.{line_over}
use Rattle.trace_line.specs.Finder.{line_by}
use Rattle.trace_line.specs.LineLaws.{lines_agree}
use Rattle.capi_trace.specs.Calls.{piece_answer, state_left, lines_left}

-- the answer, the state and the lines of a call by either engine; what it returns and the slice `written` are the answer's
pub record LabelledAlike (index sheet state piece lines written : List ℕ) : Type 0 where
  pub answer : piece_answer (line_by Index index) state piece (length lines) ≡ piece_answer (line_over sheet) state piece (length lines)
  pub state_after_lem : state_left (line_by Index index) state piece (length lines) written
      ≡ state_left (line_over sheet) state piece (length lines) written
  pub lines_after : lines_left (line_by Index index) state piece lines written ≡ lines_left (line_over sheet) state piece lines written

alike : (index sheet : List ℕ) → ((header : List ℕ) → search_of header index ≡ route_of header sheet)
    → (state piece lines written : List ℕ) → LabelledAlike index sheet state piece lines written
alike index sheet found state piece lines written =
    let same = lines_agree index sheet found in
    record {
      answer = ap (λ (line : ℕ → List ℕ → List ℕ). piece_answer line state piece (length lines)) same;
      state_after_lem = ap (λ (line : ℕ → List ℕ → List ℕ). state_left line state piece (length lines) written) same;
      lines_after = ap (λ (line : ℕ → List ℕ → List ℕ). lines_left line state piece lines written) same;
    }

pub labelled_alike : (host sheet slice : List ℕ) → Bytes host → Bytes sheet → build_number host sheet (length slice) ≡ 0
    → (state piece lines written : List ℕ) → LabelledAlike (index_after host sheet slice) sheet state piece lines written
labelled_alike host sheet slice host_bytes_lem bytes built =
    alike (index_after host sheet slice) sheet (search_is_route host sheet slice host_bytes_lem bytes built)

pub sound_labelled_alike : (host sheet slice : List ℕ) → Bytes host → Bytes sheet → sound_build_number host sheet (length slice) ≡ 0
    → (state piece lines written : List ℕ) → LabelledAlike (sound_index_after host sheet slice) sheet state piece lines written
sound_labelled_alike host sheet slice host_bytes_lem bytes built =
    alike (sound_index_after host sheet slice) sheet (sound_search_is_route host sheet slice host_bytes_lem bytes built)
