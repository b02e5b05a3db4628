use Rattle.std.proofs.Common.{map, subst, sym, inr}
use Rattle.std.proofs.lemmas.Result.{IfErr-weaker, IfOk-weaker}
use Rattle.command_line.specs.Requests.{IsRequest, IsFaultOfCommand, IsWhole}
use Rattle.command_line.proofs.Taken.{answer_asked, answer_faulty, clean, fault_of_words, kinds, rows}
use Rattle.command_line.proofs.Named.{whole}
use Rattle.command_line.proofs.reading.parsed.Goals as goal

pub requested-requires : goal.requested-requires
requested-requires g c =
    let words = map g.W.AsStr.text c.args.words.now in
    subst IsWhole (sym (rows _ words c.in-Ok.matches c.in_ok-slaptools.ensures c.in-Ok.ensures.matches))
    (whole words (clean _ words c.in_ok-slaptools.ensures c.in-Ok.ensures.kinds))

pub returns-in-Ok-clause-asked : goal.returns-in-Ok-clause-asked
returns-in-Ok-clause-asked g c =
    let words = map g.W.AsStr.text c.args.words.now in
    let same = rows _ words c.in-Ok.matches c.in_ok-slaptools.ensures c.in-Ok.ensures.matches in
    IfOk-weaker c.requested.result _ _ (λ r h. inr (clean _ words c.in_ok-slaptools.ensures c.in-Ok.ensures.kinds, subst (λ met. IsRequest met r) same h)) c.requested.ensures.asked

pub returns-in-Ok-clause-faulty : goal.returns-in-Ok-clause-faulty
returns-in-Ok-clause-faulty g c =
    let words = map g.W.AsStr.text c.args.words.now in
    let same = rows _ words c.in-Ok.matches c.in_ok-slaptools.ensures c.in-Ok.ensures.matches in
    IfErr-weaker c.requested.result _ _ (λ f h. fault_of_words words f (subst (λ met. IsFaultOfCommand met f) same h)) c.requested.ensures.faulty

pub returns-in-Err-clause-asked : goal.returns-in-Err-clause-asked
returns-in-Err-clause-asked g c =
    let words = map g.W.AsStr.text c.args.words.now in
    answer_asked words _ c.answer_of.result (kinds _ words _ c.in_ok-slaptools.ensures c.in-Err.ensures.kinds) c.answer_of.ensures

pub returns-in-Err-clause-faulty : goal.returns-in-Err-clause-faulty
returns-in-Err-clause-faulty g c =
    let words = map g.W.AsStr.text c.args.words.now in
    answer_faulty words _ c.answer_of.result (kinds _ words _ c.in_ok-slaptools.ensures c.in-Err.ensures.kinds) c.answer_of.ensures
