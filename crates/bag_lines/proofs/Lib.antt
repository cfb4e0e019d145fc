mod SortedText
