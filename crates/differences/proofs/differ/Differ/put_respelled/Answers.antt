use Rattle.std.proofs.Common.{◌++◌, not, List, sym, ap, subst, ◌∙◌}
use Rattle.std.specs.Prelude.{Some}
use Rattle.std.proofs.lemmas.List.{append-nil}
use Rattle.ldif.specs.declared.record.Record.{Record}
use Rattle.entries.specs.StoredEntries.{content_of}
use Rattle.schema.specs.Conf.{Conf}
use Rattle.schema.specs.GoodRdns.{IsRdn}
use Rattle.schema.specs.Rdns.{TypedRdn}
use Rattle.differences.specs.Differences.{same_spelling, respelling, respellings, aimed}
use Rattle.differences.specs.inner.Walks.{changes_text}
use Rattle.differences.proofs.Led.{alike_itself}
use Rattle.differences.proofs.differ.Differ.put_respelled.Goals as goal

pub put_respelling-requires : goal.put_respelling-requires
put_respelling-requires c =
    let rdn : TypedRdn = c.args.after.now.rdn in
    let good = c.entries_are_a_directory.ensures.good c.args.path.now (content_of c.args.after.now) c.requires.second in
    let types_of = c.args.self.now.conf.now.types in
    subst (λ (r : TypedRdn). IsRdn types_of r) (sym c.rdn-3.ensures) (subst (λ (conf : Conf). IsRdn conf.types rdn) c.args.self.now.after_conf good.rdn)

pub returns-then-self-clause-some : goal.returns-then-self-clause-some
returns-then-self-clause-some c =
    let x = c.args.before.now in
    sym (ap (λ (as_sets : _). not (same_spelling x.rdn (aimed as_sets c.args.self.now.conf.now.types (Some (content_of x)) (content_of c.args.after.now)).rdn)) c.if-self.true ∙ ap not (alike_itself x.rdn))

pub returns-then-self-clause-text : goal.returns-then-self-clause-text
returns-then-self-clause-text c =
    let x = c.args.before.now in
    let conf = c.args.self.now.conf.now in
    let a = c.args.self.now.before.now.entries in
    let p = c.args.path.now in
    let out = c.args.out.now.items in
    let rs : _ → List Record = λ as_sets.
    (let e = aimed as_sets conf.types (Some (content_of x)) (content_of c.args.after.now) in respellings (same_spelling x.rdn e.rdn) (respelling conf a p e.rdn)) in
    sym (ap (λ as_sets. out ++ changes_text (rs as_sets)) c.if-self.true
    ∙ ap (λ b. out ++ changes_text (respellings b (respelling conf a p x.rdn))) (alike_itself x.rdn)
    ∙ append-nil out)
