-- `stream_trace::label_parts` meets its contract: no part is refused. Assumes nothing.
use Rattle.std.proofs.Common.{ℕ, ◌≡◌, ◌≤◌, ◌/◌, ◌∙◌, length, ap, sym, arith}
use Rattle.std.specs.Slice.Iter.{chunks_size}
use Rattle.trace_engine.specs.Engine.{line_of, longest_of}
use Rattle.stream_trace.specs.PartsLaws.{bytes_sound, bytes_state, bytes_done}
use Rattle.stream_trace.proofs.label_parts.Goals as goal

pub loop-part-preserved : goal.loop-part-preserved
loop-part-preserved c =
    let top = c.loop-part in
    let cut = c.in-Some.ensures.steps in
    let is : chunks_size top.part-iterator ≡ length top.lines / longest_of c.args.engine =
    top.invariant.size ∙ ap (λ (n : ℕ). n / longest_of c.args.engine) (sym top.auto.lines) in
    let few : length c.in-Some.part.now ≤ chunks_size top.part-iterator = omega (arith, cut.1.1) in
    record {
      size = cut.0 ∙ top.invariant.size;
      sound = bytes_sound c.args.engine c.args.bytes.now top.t _ _ _ _ top.invariant.sound is few c.feed_by-fed.ensures.0;
      state = bytes_state c.args.engine c.args.bytes.now top.t _ _ _ _ top.invariant.sound is few c.feed_by-fed.ensures.0 _ _ cut.1.0 ∙ top.invariant.state;
    }

pub returns : goal.returns
returns c = bytes_done (line_of c.args.engine c.args.bytes.now) _ _ _ _ c.loop-part.invariant.state c.in-None.ensures.steps.1.0
