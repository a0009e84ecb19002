use Rattle.std.proofs.Common.{◌≡◌, length, take, arith, length-take-le}
use Rattle.history.specs.Lines.{line_of}
use Rattle.history.proofs.ReadLaws.{read_first, read_rest}
use Rattle.history.proofs.line.next.Goals as goal

pub returns-clause-line : goal.returns-clause-line
returns-clause-line g c =
    let read = c.in_ok-got.ensures in
    let long : length (take c.in_ok-got.got c.read_full.new.text) ≡ c.in_ok-got.got = length-take-le _ _ read.within in
    read_first _ _ 31 (take c.in_ok-got.got c.read_full.new.text) (λ bytes. c.parse.result ≡ line_of bytes) (omega arith) read.bytes (λ h. read.end (omega arith)) c.parse.ensures

pub returns-clause-rest : goal.returns-clause-rest
returns-clause-rest g c =
    let read = c.in_ok-got.ensures in
    let long : length (take c.in_ok-got.got c.read_full.new.text) ≡ c.in_ok-got.got = length-take-le _ _ read.within in
    read_rest _ _ 31 (take c.in_ok-got.got c.read_full.new.text) (omega arith) read.bytes (λ h. read.end (omega arith))
