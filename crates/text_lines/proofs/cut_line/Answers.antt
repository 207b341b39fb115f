-- The parts that the code cuts off are those of the definition. Assumes nothing.
use borrow.Author.Rules.{rules}
use Rattle.text_lines.proofs.Steps.{is-cutting, is-buffer, taken-within}
use Rattle.text_lines.proofs.cut_line.Goals as goal

pub returns : goal.returns
returns c =
    let here = c.before_byte-here.ensures in
    let words = c.before_byte-words.ensures in
    let cut = c.outside.ensures in
    let kept = c.keep-len.ensures in
    record {
      value = is-cutting c.args.line.now c.args.part.now c.args.from here words cut kept.value c.past.ensures;
      line_after = is-buffer c.args.line.now c.args.part.now c.args.from here words cut kept.line_after;
      taken_in_bounds = taken-within c.args.line.now c.args.part.now c.args.from here words cut c.past.ensures;
      line_len_unchanged = search rules;
    }
