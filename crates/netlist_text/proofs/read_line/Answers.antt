-- `read_line` reads the statement of a line and admits it.
use Rattle.netlist_text.proofs.read_line.Goals as goal

pub returns : goal.returns
returns c cells lib ss so h = c.admit.ensures cells _ lib (c.statement_of-s.ensures cells lib) ss so h
