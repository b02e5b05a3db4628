-- The laws of the order of paths.
use Rattle.std.specs.Cmp.{IsTotalOrder, nat_cmp_total, on_total, then_total}
use Rattle.std.specs.Cmp.Lexicographic.{nat_list_cmp_total, lists_total}
use Rattle.paths.specs.Paths.{Pair, pair_cmp, rdn_key_cmp, path_cmp}

pair_total : IsTotalOrder pair_cmp
pair_total = then_total (on_total (λ (p : Pair). p.0) nat_cmp_total) (on_total (λ (p : Pair). p.1) nat_list_cmp_total)

pub rdn_key_total : IsTotalOrder rdn_key_cmp
rdn_key_total = lists_total pair_total

pub path_total : IsTotalOrder path_cmp
path_total = lists_total rdn_key_total
