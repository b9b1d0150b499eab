-- Document 01, "Folders": the kinds of a node.
-- Assumes nothing.
pub data Kind : Type 0 where
  waiting expanded covered target : Kind
