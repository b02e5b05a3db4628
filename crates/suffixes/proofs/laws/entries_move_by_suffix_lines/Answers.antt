use Rattle.std.proofs.Common.{◌≡◌, Ok, subst}
use Rattle.base.proofs.Bound.{bind_ok, same_ok}
use Rattle.schema.specs.declared.code.Code.{Code}
use Rattle.schema.specs.Conf.{Conf, IsConf}
use Rattle.schema.proofs.Found.{SpellsRead}
use Rattle.dir_conf.proofs.Whole.{Defines}
use Rattle.suffixes.specs.Configurations.{suffix_in, with_suffix}
use Rattle.suffixes.specs.MovedDirectories.{move_by, moved_directory}
use Rattle.suffixes.specs.MovedEntries.{AreMoved}
use Rattle.suffixes.proofs.SuffixChanged.{is_conf, says_only_with_name}
use Rattle.suffixes.proofs.laws.entries_move_by_suffix_lines.Goals as goal

pub returns : goal.returns
returns c = λ old new name conf under d moved both directory all.
    let law : Defines = λ text d e. (c.defined_types_have_names.ensures.oid text d e, c.defined_types_have_names.ensures.names text d e) in
    let read : SpellsRead = λ text n. (c.spelled_names_are_read.ensures.read text n).0 in
    let k = bind_ok (suffix_in conf.types name) (λ rdns. Ok (with_suffix conf rdns)) under (says_only_with_name old new name both.changes conf both.old_says under both.new_says) in
    let same : with_suffix conf k.0 ≡ under = same_ok {F = Code} (with_suffix conf k.0) under k.2 in
    subst (λ (x : Conf). IsConf x → moved_directory (move_by conf x name d) ≡ Ok moved → AreMoved (move_by conf x name d) moved) same
    (λ ok all. c.each_entry_is_moved.ensures conf k.0 name d moved (is_conf law read old conf both.old_says) ok directory all)
    (is_conf law read new under both.new_says) all
