use Rattle.std.proofs.Common.{rules, ◌≡◌, ◌++◌, List, sym, ap, ◌∙◌}
use Rattle.std.proofs.lemmas.List.{append-nil}
use Rattle.ldif.specs.declared.record.Record.{Record}
use Rattle.entries.specs.StoredEntries.{attributes_of, content_of}
use Rattle.differences.specs.Differences.{is_some_change}
use Rattle.differences.specs.inner.Walks.{changes_text}
use Rattle.differences.proofs.NothingBetween.{none_modified}
use Rattle.differences.proofs.SettledEntries.{aimed_stay}
use Rattle.differences.proofs.differ.Differ.put_modified.Goals as goal

pub returns-then-have_same_attributes-clause-some : goal.returns-then-have_same_attributes-clause-some
returns-then-have_same_attributes-clause-some c =
    let before = attributes_of c.args.before.now.attrs in
    let after = attributes_of c.args.after.now.attrs in
    let same : before ≡ after = search (rules, c.have_same_attributes.ensures, c.if-have_same_attributes.true) in
    let good = c.entries_are_a_directory.ensures.good c.args.path.now (content_of c.args.before.now) c.requires.first in
    ap is_some_change (sym (none_modified c.args.self.now.conf.now c.args.self.now.after.now.entries c.args.path.now before _
    (aimed_stay c.args.self.now.comparison.now.unordered c.args.self.now.conf.now.types (content_of c.args.before.now) (content_of c.args.after.now) same good.types_apart)))

pub returns-then-have_same_attributes-clause-text : goal.returns-then-have_same_attributes-clause-text
returns-then-have_same_attributes-clause-text c =
    let before = attributes_of c.args.before.now.attrs in
    let after = attributes_of c.args.after.now.attrs in
    let same : before ≡ after = search (rules, c.have_same_attributes.ensures, c.if-have_same_attributes.true) in
    let good = c.entries_are_a_directory.ensures.good c.args.path.now (content_of c.args.before.now) c.requires.first in
    sym (ap (λ (rs : List Record). c.args.out.now.items ++ changes_text rs) (none_modified c.args.self.now.conf.now c.args.self.now.after.now.entries c.args.path.now before _
    (aimed_stay c.args.self.now.comparison.now.unordered c.args.self.now.conf.now.types (content_of c.args.before.now) (content_of c.args.after.now) same good.types_apart)) ∙ append-nil c.args.out.now.items)
