-- The candidates that postings give: a part of the postings gives them, too, and each entry of which a filter is True is one.
use Rattle.std.proofs.Common.{◌≡◌, ℕ, Bool, true, Some, refl, sym, ap, subst, ◌∙◌}
use Rattle.std.specs.List.{AllByRecursion}
use Rattle.std.specs.FinMap as finite
use Rattle.paths.specs.Paths.{Path}
use Rattle.schema.specs.Conf.{Conf, IsConf}
use Rattle.entries.specs.Entries.{Attributes, EntryContent, IsAttribute}
use Rattle.tree.specs.Directories.{Entries, IsDirectory}
use Rattle.paths.specs.declared.scope.Scope.{Scope}
use Rattle.tree.specs.Trees.{Tree}
use Rattle.filter_text.specs.Spells as texts
use Rattle.filter.specs.declared.truth.Truth.{Truth}
use Rattle.filter.specs.declared.truth.Truth.TheVariants.{True, Undefined, False}
use Rattle.filter.specs.Truths.{is_true}
use Rattle.filter.specs.Filters.{truth}
use Rattle.filter.specs.Made.{Made}
use Rattle.filter.specs.Prepared as prepared
use Rattle.index_text.specs.Postings.{Shown}
use Rattle.candidates.specs.Asked.{asked_keys, HaveSameSlots, ShowAlike}
use Rattle.candidates.specs.Brackets.{Reflects, Allows}
use Rattle.candidates.specs.Candidates.{prepared_of, may_be_true}
use Rattle.candidates.specs.Sides.{sides}
use Rattle.databases.specs.Ranks.{rank_in}
use Rattle.databases.specs.Scanned.{scan, scan_among, Suffices}
use Rattle.databases.specs.Searches.{may_by_rank, ShowsTo, ReflectsDump}

-- ---- a part of what postings show

-- it gives the same candidates as the whole, to a filter that asks for no more
pub by_whole : ((a b : Shown) (f : prepared.PreparedContent) (n : ℕ) → HaveSameSlots a b → ShowAlike a b (asked_keys b.slot_of f) → sides a n f ≡ sides b n f)
    → (f : Made) (t : Tree) (part whole : Shown) → ShowsTo f part whole → may_by_rank part f t ≡ may_by_rank whole f t
by_whole law f t part whole shows = λ i p. (law part whole (prepared_of f) (rank_in t.entries p) shows.slots shows.keys i).may

-- ---- what is True

told_true : (t : Truth) → is_true t ≡ true → t ≡ True
told_true True e = refl
told_true Undefined e = cc
told_true False e = cc

-- an entry of which a filter is True is a candidate, by whichever number reflects it
pub is_candidate : (d : Tree) (shown : Shown) (f : Made) → f.conf ≡ d.conf → IsConf d.conf → IsDirectory d.conf d.entries
    → ((conf : Conf) (shown : Shown) (n : ℕ) (attrs : Attributes) (f : texts.FilterContent) → IsConf conf → AllByRecursion (IsAttribute conf.types) attrs
    → Reflects shown conf.types n attrs → Allows (truth conf.types attrs f) (sides shown n (prepared.prepared_filter conf.types f)))
    → (n : ℕ) (p : Path) (e : EntryContent) → finite.get d.entries p ≡ Some e → Reflects shown d.conf.types n e.attrs
    → is_true (truth d.conf.types e.attrs (texts.view f.filter)) ≡ true → may_be_true shown f n ≡ true
is_candidate d shown f same is_conf good law n p e at shows is =
    ap (λ (c : Conf). (sides shown n (prepared.prepared_filter c.types (texts.view f.filter))).may) same
    ∙ (law d.conf shown n e.attrs (texts.view f.filter) is_conf (good.good p e at).attrs shows).if_true (told_true (truth d.conf.types e.attrs (texts.view f.filter)) is)

-- where what is shown reflects the dump, the candidates are enough
pub all_found : (d : Tree) (conf : Conf) (shown : Shown) (f : Made) (base : Path) (scope : Scope) → d.conf ≡ conf → f.conf ≡ conf → IsConf conf → IsDirectory d.conf d.entries
    → ((conf : Conf) (shown : Shown) (n : ℕ) (attrs : Attributes) (f : texts.FilterContent) → IsConf conf → AllByRecursion (IsAttribute conf.types) attrs
    → Reflects shown conf.types n attrs → Allows (truth conf.types attrs f) (sides shown n (prepared.prepared_filter conf.types f)))
    → ((conf : Conf) (d : Entries) (is_candidate : Path → Bool) (base : Path) (scope : Scope) (f : texts.FilterContent) → Suffices conf d is_candidate f → scan_among conf d is_candidate base scope f ≡ scan conf d base scope f)
    → ReflectsDump shown conf.types d.entries
    → scan_among d.conf d.entries (may_by_rank shown f d) base scope (texts.view f.filter) ≡ scan conf d.entries base scope (texts.view f.filter)
all_found d conf shown f base scope same prepared_by is_conf good law enough reflects =
    enough d.conf d.entries (may_by_rank shown f d) base scope (texts.view f.filter)
    (λ p e at is. is_candidate d shown f (prepared_by ∙ sym same) (subst IsConf (sym same) is_conf) good law (rank_in d.entries p) p e at
    (subst (λ (c : Conf). Reflects shown c.types (rank_in d.entries p) e.attrs) (sym same) (reflects.each p e at)) is)
    ∙ ap (λ (c : Conf). scan c d.entries base scope (texts.view f.filter)) same
