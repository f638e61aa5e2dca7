use Rattle.std.proofs.Common.{◌≡◌, true, rules, sym, subst}
use Rattle.std.specs.List.{between, AllByRecursion}
use Rattle.photo.specs.Header.{digit}
use Rattle.photo.proofs.Runs.{run_all}
use Rattle.photo.proofs.scan.scan_digits.Goals as goal

pub decimal_of-value-requires : goal.decimal_of-value-requires
decimal_of-value-requires c =
    let b = c.args.bytes.now in
    let end = c.run_end-end.ensures.value digit (λ x told after k. search rules) in (
      search rules,
      subst (λ e. AllByRecursion (λ d. digit d ≡ true) (between c.args.from e b)) (sym end) (run_all digit b c.args.from),
    )
