use Rattle.pure_commands.proofs.set_told.write_told.Goals as goal

pub returns-in-Rates-clause-done : goal.returns-in-Rates-clause-done
returns-in-Rates-clause-done g c = rw c.in-Rates.is c.write_set.ensures.done

pub returns-in-Rates-clause-stops : goal.returns-in-Rates-clause-stops
returns-in-Rates-clause-stops g c = rw c.in-Rates.is c.write_set.ensures.stops

pub returns-in-Tree-clause-done : goal.returns-in-Tree-clause-done
returns-in-Tree-clause-done g c = rw c.in-Tree.is c.write_set-in-Tree.ensures.done

pub returns-in-Tree-clause-stops : goal.returns-in-Tree-clause-stops
returns-in-Tree-clause-stops g c = rw c.in-Tree.is c.write_set-in-Tree.ensures.stops

pub returns-in-Trace-clause-done : goal.returns-in-Trace-clause-done
returns-in-Trace-clause-done g c = rw c.in-Trace.is c.write_set-in-Trace.ensures.done

pub returns-in-Trace-clause-stops : goal.returns-in-Trace-clause-stops
returns-in-Trace-clause-stops g c = rw c.in-Trace.is c.write_set-in-Trace.ensures.stops

pub returns-in-TraceWrap-clause-done : goal.returns-in-TraceWrap-clause-done
returns-in-TraceWrap-clause-done g c = rw c.in-TraceWrap.is c.write_set-in-TraceWrap.ensures.done

pub returns-in-TraceWrap-clause-stops : goal.returns-in-TraceWrap-clause-stops
returns-in-TraceWrap-clause-stops g c = rw c.in-TraceWrap.is c.write_set-in-TraceWrap.ensures.stops

pub returns-in-TraceRepeat-clause-done : goal.returns-in-TraceRepeat-clause-done
returns-in-TraceRepeat-clause-done g c = rw c.in-TraceRepeat.is c.write_trace_again.ensures.done

pub returns-in-TraceRepeat-clause-stops : goal.returns-in-TraceRepeat-clause-stops
returns-in-TraceRepeat-clause-stops g c = rw c.in-TraceRepeat.is c.write_trace_again.ensures.stops

pub returns-in-Table-clause-done : goal.returns-in-Table-clause-done
returns-in-Table-clause-done g c = rw c.in-Table.is c.write_set-in-Table.ensures.done

pub returns-in-Table-clause-stops : goal.returns-in-Table-clause-stops
returns-in-Table-clause-stops g c = rw c.in-Table.is c.write_set-in-Table.ensures.stops

pub returns-in-TableRepeat-clause-done : goal.returns-in-TableRepeat-clause-done
returns-in-TableRepeat-clause-done g c = rw c.in-TableRepeat.is c.write_table_again.ensures.done

pub returns-in-TableRepeat-clause-stops : goal.returns-in-TableRepeat-clause-stops
returns-in-TableRepeat-clause-stops g c = rw c.in-TableRepeat.is c.write_table_again.ensures.stops
