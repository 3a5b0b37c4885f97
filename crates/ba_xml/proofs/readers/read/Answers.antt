use Rattle.std.proofs.Common.{◌≡◌, Err, [], rules, sym, subst}
use Rattle.ba_xml.proofs.Feeding.{fault_read, all_fed, answer_read}
use Rattle.ba_xml.specs.Reading.{IsReadOf}
use Rattle.ba_xml.proofs.readers.read.Goals as goal

pub returns-in_err-feed : goal.returns-in_err-feed
returns-in_err-feed c =
    let why = c.in_err-feed.field-0.0 in
    let is : c.from_residual-in_err-feed.result ≡ Err why = search rules in
    record {
      answer = subst (λ result. IsReadOf c.args.bytes.now result) (sym is)
          (fault_read why c.args.bytes.now c.feed.new.self (c.in_err-feed.ensures.fed [] c.in_ok-reader.ensures)
          c.in_err-feed.ensures.told);
    }

pub returns : goal.returns
returns c = record {
  answer = answer_read c.end.result c.args.bytes.now (c.end.ensures.answer c.args.bytes.now
      (all_fed c.in_ok-feed.field-0 c.args.bytes.now c.feed.new.self (c.in_ok-feed.ensures.fed [] c.in_ok-reader.ensures)));
}
