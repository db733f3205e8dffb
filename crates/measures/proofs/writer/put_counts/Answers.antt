use Rattle.std.proofs.Common.{◌++◌, codes, decimal}
use Rattle.std.specs.List.{flat_map}
use Rattle.text.proofs.Writing.{Wrote-after, Wrote-as, Wrote-err, WroteFront-after, WroteFront-more}
use Rattle.measures.proofs.Joined.{counts_begin, more}
use Rattle.measures.proofs.writer.put_counts.Goals as goal

pub returns-in_err-put_number-in-Some : goal.returns-in_err-put_number-in-Some
returns-in_err-put_number-in-Some g c =
    let first = codes "(" ++ decimal c.in-Some.first.now in
    let whole = counts_begin c.args.counts.now c.in-Some.first.now c.in-Some.rest.now c.in-Some.ensures.cases.0 in
    record {
      wrote = Wrote-as _ _ _ _ _ whole (Wrote-err _ _ _ _ c.from_residual.ensures.0
          (WroteFront-more _ _ first _ c.in_err-put_number-in-Some.ensures.wrote));
    }

pub returns-in_err-put_more-in-Some : goal.returns-in_err-put_more-in-Some
returns-in_err-put_more-in-Some g c =
    let first = codes "(" ++ decimal c.in-Some.first.now in
    let whole = counts_begin c.args.counts.now c.in-Some.first.now c.in-Some.rest.now c.in-Some.ensures.cases.0 in
    record {
      wrote = Wrote-as _ _ _ _ _ whole
          (Wrote-err _ _ _ _ c.from_residual-in_err-put_more-in-Some.ensures.0
          (WroteFront-after _ _ _ first _ c.in_ok-put_number-in-Some.ensures.wrote
          (WroteFront-more _ _ (flat_map more c.in-Some.rest.now) _ c.in_err-put_more-in-Some.ensures)));
    }

pub returns-in_ok-put_more-in-Some : goal.returns-in_ok-put_more-in-Some
returns-in_ok-put_more-in-Some g c =
    let first = codes "(" ++ decimal c.in-Some.first.now in
    let whole = counts_begin c.args.counts.now c.in-Some.first.now c.in-Some.rest.now c.in-Some.ensures.cases.0 in
    record {
      wrote = Wrote-as _ _ _ _ _ whole
          (Wrote-after _ _ _ first _ _ c.in_ok-put_number-in-Some.ensures.wrote
          (Wrote-after _ _ _ (flat_map more c.in-Some.rest.now) _ _ c.in_ok-put_more-in-Some.ensures c.put-in-Some.ensures.wrote));
    }
