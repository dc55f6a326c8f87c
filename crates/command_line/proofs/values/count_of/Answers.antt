use Rattle.std.proofs.Common.{◌≡◌, ◌<◌, ◌^◌, arith, rules, true}
use Rattle.std.specs.Char.{is_ascii_digit}
use Rattle.std.specs.List.{list_all}
use Rattle.command_line.proofs.LineLemmas.{count-read, count-unread}
use Rattle.command_line.proofs.values.count_of.Goals as goal

pub returns-in-Ok : goal.returns-in-Ok
returns-in-Ok c =
    let digits : list_all is_ascii_digit c.args.text.now ≡ true = search rules in
    count-read c.args.most c.args.text.now c.in-Ok.count c.in-Ok.ensures.value.0 digits c.if-count-ge1.true c.if-count-most.true

pub returns-in_default-3 : goal.returns-in_default-3
returns-in_default-3 c =
    let digits : list_all is_ascii_digit c.args.text.now ≡ true = search rules in
    let fits : c.args.most < 2 ^ 32 = omega arith in
    count-unread c.args.most c.args.text.now c.in_default.ensures.value.0 digits fits
