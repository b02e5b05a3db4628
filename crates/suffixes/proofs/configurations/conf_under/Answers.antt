use Rattle.suffixes.proofs.NewConfs.{suffix_good, conf_good}
use Rattle.suffixes.proofs.configurations.conf_under.Goals as goal

pub new-requires : goal.new-requires
new-requires c =
    conf_good c.args.conf.now c.in_ok-types.types c.in_ok-suffix.suffix c.in_ok-slots.slots c.in_ok-classes.classes c.rules_are_kept.ensures
    c.in_ok-types.ensures c.in_ok-slots.ensures c.in_ok-classes.ensures
    (suffix_good (λ text n. (c.spelled_names_are_read.ensures.read text n).0) c.in_ok-types.types c.args.text.now c.in_ok-suffix.suffix c.in_ok-suffix.ensures)
