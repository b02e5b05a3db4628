use Rattle.std.proofs.Common.{◌≡◌, ◌∙◌, ◌||◌, List, Bool, Bor, Option, Some, None, nat_eq, refl, sym, ap, subst}
use Rattle.std.specs.Option.{option_copied}
use Rattle.std.specs.Prelude.{is_some}
use Rattle.std.specs.List.{list_any}
use Rattle.entries.proofs.StoredLemmas.{there_is}
use Rattle.paths.specs.Paths.{Path}
use Rattle.entries.specs.Entries.{EntryContent}
use Rattle.entries.specs.StoredEntries.{Entry}
use Rattle.tree.specs.Trees.{seen_entries}
use Rattle.checks.specs.Passwords.{has_type}
use Rattle.checks.proofs.Kept.{all_seen}
use Rattle.checks.proofs.passwords.has_type.Goals as goal

pub loop-entry-init : goal.loop-entry-init
loop-entry-init c =
    let d = c.args.tree.now.entries in
    let items : List (Path × Entry) = c.range-entry-items.result in
    let gives = c.into_iter-entry-iterator.ensures.into_iter_gives in
    let has : List (Path × EntryContent) → Bool = λ es. list_any (λ x. list_any (λ a. nat_eq c.args.t a.0) x.1.attrs) es in
    ap (λ (es : List (Path × Entry)). has (seen_entries es)) gives
    ∙ ap has (all_seen d items c.root-root.result c.root-root.ensures c.range-entry-items.ensures.entries)

some_copied : {A : Type 0} (o : Option (Bor A)) → is_some (option_copied o) ≡ is_some o
some_copied None = refl
some_copied (Some x) = refl

pub loop-entry-preserved : goal.loop-entry-preserved
loop-entry-preserved c =
    let has : List (Path × Entry) → Bool = λ es. list_any (λ x. list_any (λ a. nat_eq c.args.t a.0) x.1.attrs) (seen_entries es) in
    let all = has_type c.args.tree.now.entries c.args.t in
    let old : List (Path × Entry) = c.loop-entry.entry-iterator in
    let before : has old ≡ all = subst (λ (b : Bool). (b || has old) ≡ all) c.if-found.false c.loop-entry.invariant in
    ap (λ (b : Bool). b || has c.next.new.self) (c.is_some-found.ensures ∙ sym (some_copied c.values.result) ∙ ap is_some c.values.ensures ∙ there_is c.args.t c.in-Some.entry.now.attrs)
    ∙ subst (λ (es : List (Path × Entry)). has es ≡ all) c.in-Some.ensures.steps before
