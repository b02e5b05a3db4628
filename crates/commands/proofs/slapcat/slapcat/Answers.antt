use Rattle.std.proofs.Common.{Option, refl, ap}
use Rattle.std.specs.Option.{option_copied}
use Rattle.std.proofs.lemmas.Result.{err_from_is_err_and}
use Rattle.filter_text.specs.Spells.{view}
use Rattle.folders.specs.Folders.{Files}
use Rattle.commands.specs.Prints.{cat_wanted, IsTextUnder, CatText, CatStops}
use Rattle.commands.specs.Queries.{HasBegun}
use Rattle.commands.specs.inner.Views.{basis_of}
use Rattle.commands.proofs.Ends.{has_basis, put_more}
use Rattle.commands.proofs.Stopping.{stopped, query_stops, filter_stops, filter_prints, load_stops, load_prints, refused_stops, prints_more}
use Rattle.commands.proofs.slapcat.slapcat.Goals as goal

pub returns-in_err-filter-clause-ends : goal.returns-in_err-filter-clause-ends
returns-in_err-filter-clause-ends g c =
    let asked = c.args.asked.now in
    let files = g.F.Folder.files c.args.folder.now in
    let fails = c.in_err-filter.ensures.fault in
    let p = err_from_is_err_and c.from_residual.result c.from_residual.ensures.1 in
    rw (p.1, p.2) (λ w. stopped (CatStops asked) _ _ _
    (query_stops (cat_wanted asked) _ _ _ _ (filter_stops (cat_wanted asked) files _ fails)
    (filter_prints (HasBegun (CatText asked files) (option_copied asked.file)) _ _ refl (option_copied asked.filter) _ fails) refl) refl)

pub returns-in_err-database-clause-ends : goal.returns-in_err-database-clause-ends
returns-in_err-database-clause-ends g c =
    let asked = c.args.asked.now in
    let files = g.F.Folder.files c.args.folder.now in
    let fails = c.in_err-database.ensures.err in
    let p = err_from_is_err_and c.from_residual-in_err-database.result c.from_residual-in_err-database.ensures.1 in
    rw (p.1, p.2) (λ w. stopped (CatStops asked) _ _ _
    (query_stops (cat_wanted asked) _ _ _ _ (load_stops (cat_wanted asked) files (view c.in_ok-filter.filter) c.in_ok-filter.ensures.found _ fails)
    (load_prints (HasBegun (CatText asked files) (option_copied asked.file)) _ _ refl files asked.db.now _ fails) refl) refl)

pub returns-in-Ok-clause-ends : goal.returns-in-Ok-clause-ends
returns-in-Ok-clause-ends g c = λ w.
    let asked = c.args.asked.now in
    let files = g.F.Folder.files c.args.folder.now in
    let basis = basis_of c.in_ok-filter.filter c.in_ok-database.database in (
      refl,
      put_more (IsTextUnder (option_copied asked.suffix) asked basis) (CatText asked files)
          (λ text. has_basis (cat_wanted asked) files basis c.in_ok-filter.ensures.found c.in_ok-database.ensures.loaded (λ basis. IsTextUnder (option_copied asked.suffix) asked basis text))
          asked.db.now (option_copied asked.file) _ _ (c.in-Ok.ensures.put w),
    )

pub returns-clause-ends : goal.returns-clause-ends
returns-clause-ends g c = λ w.
    let asked = c.args.asked.now in
    let files = g.F.Folder.files c.args.folder.now in
    let basis = basis_of c.in_ok-filter.filter c.in_ok-database.database in
    stopped (CatStops asked) _ _ _
    (query_stops (cat_wanted asked) _ _ _ c.in-Err.fault
    (refused_stops (cat_wanted asked) files _ c.in_ok-filter.ensures.found _ _ c.in_ok-database.ensures.loaded c.in-Err.fault c.in-Err.ensures.fault)
    (prints_more (HasBegun (IsTextUnder (option_copied asked.suffix) asked basis) (option_copied asked.file)) (HasBegun (CatText asked files) (option_copied asked.file)) _ _
    (λ fault begun. record {
      text = begun.text;
      is = has_basis (cat_wanted asked) files basis c.in_ok-filter.ensures.found c.in_ok-database.ensures.loaded (λ basis. IsTextUnder (option_copied asked.suffix) asked basis begun.text) begun.is;
      begins = begun.begins;
    }) c.in-Err.fault c.in-Err.ensures.partly)
    (ap (λ (fs : Option Files). record w { files = fs; output = g.O.Sink.written c.put_text-done.new.out }) c.in-Err.ensures.same)) c.in-Err.ensures.same
